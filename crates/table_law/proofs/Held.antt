-- What a client's report of a layer holds.
use Rattle.std.proofs.Common.{◌≡◌, ℕ, suc, ◌+◌, ◌^◌, ◌<◌, ◌≤◌, true, List, [], ◌∷◌, Ok, Err, refl, sym, ap, ap₂, ◌∙◌, length, drop, slice_index, arith, length-drop, eqb, eq-eqb}
use Rattle.std.specs.Prelude.{if◌then◌else◌, not}
use Rattle.std.specs.Cmp.Lexicographic.{bytes_decides}
use Rattle.std.proofs.Math.Seq.{drop-cons}
use Rattle.std.proofs.lemmas.List.{drop_all}
use Rattle.std.proofs.lemmas.List.Elements.{All-drop, All-from_get_or}
use Rattle.hmac_seal.specs.Hmac.{hmac_sha256}
use Rattle.report_frame.specs.declared.limits.TheConstants.{FIXED_BYTES, MAX_FRAME_ONE, MIN_THRESHOLD, MAX_VALUE}
use Rattle.report_frame.specs.declared.version.Version.TheVariants.{One}
use Rattle.report_frame.specs.Versions.{max_threshold}
use Rattle.report_frame.specs.Frame.{Fields, sealed_part}
use Rattle.report_frame.specs.Reading.{decoded}
use Rattle.report_frame.specs.Thresholds.{AreThresholds}
use Rattle.report_frame.proofs.Frames.{decoded-frame}
use Rattle.adss_commit.specs.declared.context.Context.{Context}
use Rattle.adss_commit.specs.Derivation.{context_key, context_check, body_key_of, seal_key_of}
use Rattle.nest_client.specs.Report.{client_of, layer, frame_of, plain_body}
use Rattle.nest_client.proofs.Held.{layer_holds}
use Rattle.layer_walk.specs.declared.refusal.Why.TheVariants.{WrongEpoch, WrongLevel, Seal}
use Rattle.layer_walk.specs.Members.{is_sealed, plain_body as plain_of, frame_for, inner_or_refused, opened_body, keys_of, next_with}
use Rattle.layer_walk.specs.Members.Next.{Refused, Last, Inner}
use Rattle.table_law.specs.Prefixes.{value_at}
use Rattle.table_law.specs.Layers.{check_before, layer_context, layer_body, layer_report}
use Rattle.table_law.specs.Reveals.{IsRowOf}
use Rattle.table_law.proofs.Frames.{IsGoodContext, IsGoodLayer, layer_good, FitLevels, plain_good}

-- a report of a layer holds its plain body
opened_own : (e : ℕ) (seed : List ℕ) (i f l : ℕ) (x : Context) (plain : List ℕ) → x.version ≡ One → next_with (keys_of One f l (context_key x)) (layer (client_of One e seed i) 0 x plain) ≡ opened_body (keys_of One f l (context_key x)) plain
unfolding next_with layer
opened_own e seed i f l x plain one =
    let r = layer (client_of One e seed i) 0 x plain in
    let holds = layer_holds (client_of One e seed i) 0 x plain in
    let version : r.version ≡ One = one in
    let seal : r.seal ≡ hmac_sha256 (keys_of One f l (context_key x)).seal (sealed_part r) = holds.seal ∙ ap (λ v. hmac_sha256 (seal_key_of v (context_key x)) (sealed_part r)) version in
    let sealed : is_sealed (keys_of One f l (context_key x)).seal r ≡ true = (bytes_decides r.seal (hmac_sha256 (keys_of One f l (context_key x)).seal (sealed_part r))).1 seal in
    let body : plain_of (keys_of One f l (context_key x)).body r ≡ plain = ap (λ v. plain_of (body_key_of v (context_key x)) r) (sym version) ∙ holds.body in
    ap (λ b. if b then opened_body (keys_of One f l (context_key x)) (plain_of (keys_of One f l (context_key x)).body r) else Refused Seal) sealed ∙ ap (opened_body (keys_of One f l (context_key x))) body

-- the values and thresholds after the first l
fit_from : (ks : List ℕ) (row : List (List ℕ)) (l : ℕ) → AreThresholds One ks → IsRowOf ks row → l ≤ length ks → FitLevels l (drop l row) (drop l ks)
fit_from ks row l t g within = record {
  deep = omega (arith, length-drop l row, g.width, t.few);
  width = omega (arith, length-drop l row, length-drop l ks, g.width);
  k_low = All-drop (λ k. MIN_THRESHOLD ≤ k) l ks (All-from_get_or (λ k. MIN_THRESHOLD ≤ k) ks 0 (λ j lt. t.low j lt));
  k_high = All-drop (λ k. k ≤ max_threshold One) l ks (All-from_get_or (λ k. k ≤ max_threshold One) ks 0 (λ j lt. t.high j lt));
  value_low = All-drop (λ (v : List ℕ). 1 ≤ length v) l row (λ j d lt. (g.values j d lt).0);
  value_high = All-drop (λ (v : List ℕ). length v ≤ MAX_VALUE) l row (λ j d lt. (g.values j d lt).1);
}

pub good_context : (e : ℕ) (ks : List ℕ) (row : List (List ℕ)) (l : ℕ) → e < 2 ^ 32 → AreThresholds One ks → IsRowOf ks row → l < length ks → IsGoodContext (layer_context e ks l row)
good_context e ks row l low t g within = record {
  version = refl;
  level = omega (arith, t.few);
  epoch = low;
  k_low = t.low l within;
  k_high = t.high l within;
  value_low = (g.values l [] (omega (arith, g.width))).0;
  value_high = (g.values l [] (omega (arith, g.width))).1;
}

-- the report of a layer is a frame
pub report_good : (e : ℕ) (seed ks : List ℕ) (i l : ℕ) (row : List (List ℕ)) → e < 2 ^ 32 → AreThresholds One ks → IsRowOf ks row → l < length ks →
    IsGoodLayer (layer_report e seed ks l i row) (FIXED_BYTES + MAX_VALUE + length (layer_body e seed ks l i row))
unfolding layer_report
report_good e seed ks i l row low t g within =
    let body = plain_good e seed i (suc l) (context_check (layer_context e ks l row)) (drop (suc l) row) (drop (suc l) ks) low (fit_from ks row (suc l) t g (omega arith)) in
    layer_good e seed i (layer_context e ks l row) (layer_body e seed ks l i row) (good_context e ks row l low t g within) body.0 (omega (arith, body.1, length-drop (suc l) row, g.width, t.few))

-- and no longer than a frame may be
pub report_short : (e : ℕ) (seed ks : List ℕ) (i l : ℕ) (row : List (List ℕ)) → e < 2 ^ 32 → AreThresholds One ks → IsRowOf ks row → l < length ks → length (frame_of (layer_report e seed ks l i row)) ≤ MAX_FRAME_ONE
report_short e seed ks i l row low t g within =
    let body = plain_good e seed i (suc l) (context_check (layer_context e ks l row)) (drop (suc l) row) (drop (suc l) ks) low (fit_from ks row (suc l) t g (omega arith)) in
    omega (arith, (report_good e seed ks i l row low t g within).long, body.1, length-drop (suc l) row, g.width, t.few)

-- the plain body of a layer that isn't the last
body_of_layer : (e : ℕ) (seed ks : List ℕ) (i l : ℕ) (row : List (List ℕ)) → length row ≡ length ks → suc l < length ks → layer_body e seed ks l i row ≡ 1 ∷ frame_of (layer_report e seed ks (suc l) i row)
unfolding layer_report plain_body check_before
body_of_layer e seed ks i l row width within =
    let values : drop (suc l) row ≡ value_at row (suc l) ∷ drop (suc (suc l)) row = drop-cons row (suc l) [] (omega arith) in
    let thresholds : drop (suc l) ks ≡ slice_index ks (suc l) ∷ drop (suc (suc l)) ks = drop-cons ks (suc l) 0 within in
    let check : List ℕ = context_check (layer_context e ks l row) in
    let next : suc l + 1 ≡ suc (suc l) = omega arith in
    ap₂ (λ vs ts. plain_body (client_of One e seed i) [] (suc l) check vs ts) values thresholds
    ∙ ap (λ (n : ℕ). 1 ∷ frame_of (layer (client_of One e seed i) 0 (layer_context e ks (suc l) row) (plain_body (client_of One e seed i) [] n (context_check (layer_context e ks (suc l) row)) (drop (suc (suc l)) row) (drop (suc (suc l)) ks)))) next

-- and that of the last
body_of_last : (e : ℕ) (seed ks : List ℕ) (i l : ℕ) (row : List (List ℕ)) → length row ≡ length ks → suc l ≡ length ks → layer_body e seed ks l i row ≡ 0 ∷ []
unfolding plain_body
body_of_last e seed ks i l row width last =
    ap (λ vs. plain_body (client_of One e seed i) [] (suc l) (context_check (layer_context e ks l row)) vs (drop (suc l) ks)) (drop_all (suc l) row (omega arith))

-- a frame of the right epoch and level
pub right_frame : (e l : ℕ) (r : Fields) → r.epoch ≡ e → r.level ≡ l → frame_for e l (Ok r) ≡ Ok r
right_frame e l r epoch level =
    let one : eqb r.epoch e ≡ true = eq-eqb r.epoch e epoch in
    let two : eqb r.level l ≡ true = eq-eqb r.level l level in
    ap (λ b. if not b then Err WrongEpoch else if not (eqb r.level l) then Err WrongLevel else Ok r) one ∙ ap (λ b. if not b then Err WrongLevel else Ok r) two

-- a layer's report holds that of the next layer
pub holds_next : (e : ℕ) (seed ks : List ℕ) (i l : ℕ) (row : List (List ℕ)) → e < 2 ^ 32 → AreThresholds One ks → IsRowOf ks row → suc l < length ks →
    next_with (keys_of One e l (context_key (layer_context e ks l row))) (layer_report e seed ks l i row) ≡ Inner (layer_report e seed ks (suc l) i row)
unfolding layer_report layer
holds_next e seed ks i l row low t g within =
    let r = layer_report e seed ks (suc l) i row in
    let keys = keys_of One e l (context_key (layer_context e ks l row)) in
    let good = report_good e seed ks i (suc l) row low t g within in
    let read : decoded (frame_of r) ≡ Ok r = decoded-frame r (frame_of r) good.is_frame in
    let level : suc l ≡ l + 1 = omega arith in
    opened_own e seed i e l (layer_context e ks l row) (layer_body e seed ks l i row) refl
    ∙ ap (opened_body keys) (body_of_layer e seed ks i l row g.width within)
    ∙ ap (λ o. inner_or_refused One (frame_for e (l + 1) o)) read
    ∙ ap (inner_or_refused One) (right_frame e (l + 1) r refl level)

-- and that of the last layer holds nothing
pub holds_last : (e : ℕ) (seed ks : List ℕ) (i l : ℕ) (row : List (List ℕ)) → IsRowOf ks row → suc l ≡ length ks →
    next_with (keys_of One e l (context_key (layer_context e ks l row))) (layer_report e seed ks l i row) ≡ Last []
unfolding layer_report
holds_last e seed ks i l row g last =
    opened_own e seed i e l (layer_context e ks l row) (layer_body e seed ks l i row) refl ∙ ap (opened_body (keys_of One e l (context_key (layer_context e ks l row)))) (body_of_last e seed ks i l row g.width last)
