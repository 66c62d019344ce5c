-- The frame as a format: what its entries are, and what bytes decode to.
use Rattle.std.proofs.Common.{◌≡◌, ℕ, ◌+◌, List, [], ◌∷◌, ◌++◌, length, Option, Some, None, Result, Ok, Err, refl, sym, ap, ap₂, subst, ◌∙◌, rules, arith, inl, inr}
use Rattle.std.proofs.Math.Nat.{le_antisymm}
use Rattle.std.proofs.lemmas.List.{append-nil}
use Rattle.star_io.specs.Bytes.{AreBytes}
use Rattle.report_frame.specs.declared.fault.FaultKind.{FaultKind}
use Rattle.report_frame.specs.declared.fault.FaultKind.TheVariants.{TooLong, Trailing}
use Rattle.report_frame.specs.declared.fault.Fault.{Fault}
use Rattle.report_frame.specs.declared.version.Version.{Version}
use Rattle.report_frame.specs.Versions.{version_of}
use Rattle.byte_format.specs.Format.{Entry, After, IsEnd, MayFollow, spelling}
use Rattle.byte_format.specs.Format.Entry.{Number, Bytes}
use Rattle.report_frame.specs.Frame.{Fields, IsFrame, FaultAt, entries, back, frame}
use Rattle.byte_format.specs.Reading.{◌>>=◌, read}
use Rattle.byte_format.proofs.FirstEntry.{number_first, bytes_first, nothing_first}
use Rattle.byte_format.proofs.Answered.{Answered, Found, Failed}
use Rattle.byte_format.proofs.Found.{found, Whole, Wrong}
use Rattle.byte_format.proofs.Spelt.{IsSound, read-whole, read-wrong}
use Rattle.report_frame.specs.Reading.{frames, fields_from, passed_limit, decoded_under, decoded}
use Rattle.report_frame.proofs.VersionFacts.{version_of_number, number_of_version, level_fits, threshold_fits}
use Rattle.report_frame.proofs.Lengths.{Passes, Keeps, limit_step, passes, keeps, short_enough, frame_is_short}

pub frame_is_sound : IsSound frame
frame_is_sound = search (rules, arith, level_fits, threshold_fits)

-- ---- the entries

-- what a report puts into the fields from the length of the box on
record HasBack (end : Option FaultKind) (es : List Entry) : Type 0 where
  boxed : List ℕ
  nonce : List ℕ
  body : List ℕ
  seal : List ℕ
  is : es ≡ Number (length boxed) ∷ Bytes boxed ∷ Bytes nonce ∷ Number (length body) ∷ Bytes body ∷ Bytes seal ∷ []
  ends : end ≡ Some Trailing

back_entries : (end : Option FaultKind) (es : List Entry) → After back es (IsEnd end) → HasBack end es
back_entries end es whole =
    number_first end (HasBack end es) _ _ _ _ _ es whole (λ box_length es1 box_length_is _ _ whole1.
    bytes_first end (HasBack end es) _ _ es1 whole1 (λ boxed es2 boxed_is length_of_box whole2.
    bytes_first end (HasBack end es) _ _ es2 whole2 (λ nonce es3 nonce_is _ whole3.
    number_first end (HasBack end es) _ _ _ _ _ es3 whole3 (λ body_length es4 body_length_is _ _ whole4.
    bytes_first end (HasBack end es) _ _ es4 whole4 (λ body es5 body_is length_of_body whole5.
    bytes_first end (HasBack end es) _ _ es5 whole5 (λ seal es6 seal_is _ whole6.
    let nothing = nothing_first end (Some Trailing) es6 whole6 in
    let none = nothing.0 in
    record { boxed = boxed; nonce = nonce; body = body; seal = seal; is = cc; ends = sym nothing.1 }))))))

-- a report has these entries
record HasReport (end : Option FaultKind) (es : List Entry) : Type 0 where
  report : Fields
  is : es ≡ entries report
  ends : end ≡ Some Trailing

-- entries in all fields are those of a report
whole_entries : (end : Option FaultKind) (es : List Entry) → After frame es (IsEnd end) → HasReport end es
whole_entries end es whole =
    number_first end (HasReport end es) _ _ _ _ _ es whole (λ magic es1 magic_is magic_low magic_high whole1.
    number_first end (HasReport end es) _ _ _ _ _ es1 whole1 (λ number es2 number_is number_low number_high whole2.
    number_first end (HasReport end es) _ _ _ _ _ es2 whole2 (λ level es3 level_is _ _ whole3.
    number_first end (HasReport end es) _ _ _ _ _ es3 whole3 (λ epoch es4 epoch_is _ _ whole4.
    number_first end (HasReport end es) _ _ _ _ _ es4 whole4 (λ k es5 k_is _ _ whole5.
    number_first end (HasReport end es) _ _ _ _ _ es5 whole5 (λ x es6 x_is _ _ whole6.
    number_first end (HasReport end es) _ _ _ _ _ es6 whole6 (λ y0 es7 y0_is _ _ whole7.
    number_first end (HasReport end es) _ _ _ _ _ es7 whole7 (λ y1 es8 y1_is _ _ whole8.
    number_first end (HasReport end es) _ _ _ _ _ es8 whole8 (λ y2 es9 y2_is _ _ whole9.
    bytes_first end (HasReport end es) _ _ es9 whole9 (λ tag es10 tag_is _ whole10.
    bytes_first end (HasReport end es) _ _ es10 whole10 (λ check es11 check_is _ whole11.
    let rest = back_entries end es11 whole11 in
    let is_magic = le_antisymm magic_high magic_low in
    let is_number = number_of_version number number_low number_high in
    let report : Fields = record {
      version = version_of number;
      level = level;
      epoch = epoch;
      k = k;
      x = x;
      y0 = y0;
      y1 = y1;
      y2 = y2;
      tag = tag;
      check = check;
      boxed = rest.boxed;
      nonce = rest.nonce;
      body = rest.body;
      seal = rest.seal;
    } in
    record { report = report; is = cc; ends = rest.ends })))))))))))

-- ---- decoding

pub decoded-long : (bytes : List ℕ) (limit : ℕ) → passed_limit bytes ≡ Some limit → decoded bytes
    ≡ Err (record { kind = TooLong; at = limit })
unfolding decoded
decoded-long bytes limit is = ap (λ (l : Option ℕ). decoded_under l bytes) is

pub decoded-short : (bytes : List ℕ) → passed_limit bytes ≡ None → decoded bytes
    ≡ (read frames frame 0 [] bytes >>= λ es. Ok (fields_from es))
unfolding decoded
decoded-short bytes is = ap (λ (l : Option ℕ). decoded_under l bytes) is

-- a report is the one of its entries
pub fields-entries : (r : Fields) → fields_from (entries r) ≡ r
fields-entries r = ap (λ (v : Version). record r { version = v }) (version_of_number r.version)

-- a frame decodes to its report
pub decoded-frame : (r : Fields) (bytes : List ℕ) → IsFrame r bytes → decoded bytes ≡ Ok r
decoded-frame r bytes frame_of_r =
    let entries_read : read frames frame 0 [] bytes ≡ Ok (entries r) =
    ap (read frames frame 0 []) (frame_of_r.spelt ∙ sym (append-nil (spelling frame (entries r))))
    ∙ read-whole frames frame 0 (entries r) (Some Trailing) [] frame_is_sound frame_of_r.range refl in
    decoded-short bytes (keeps bytes (frame_is_short r bytes frame_of_r))
    ∙ ap (λ (es : Result (List Entry) Fault). es >>= λ l. Ok (fields_from l)) entries_read
    ∙ ap (λ (f : Fields). Ok f) (fields-entries r)

-- a place, counted from the front
from_front : (n : ℕ) → 0 + n ≡ n
from_front n = omega arith

-- and bytes with a fault to it
pub decoded-fault : (bytes : List ℕ) (kind : FaultKind) (at : ℕ) → FaultAt bytes kind at → decoded bytes
    ≡ Err (record { kind = kind; at = at })
decoded-fault bytes kind at fault = elim fault [
  | inl long ↦ decoded-long bytes at (passes bytes at long.1) ∙ ap (λ (k : FaultKind). Err (record { kind = k; at = at })) (sym long.0)
  | inr wrong ↦
      let fault_read : read frames frame 0 [] bytes ≡ Err (record { kind = kind; at = 0 + length (spelling frame wrong.1.0) }) =
      ap (read frames frame 0 []) wrong.1.2 ∙ read-wrong frames frame 0 wrong.1.0 wrong.1.1 kind frame_is_sound wrong.1.4 in
      decoded-short bytes (keeps bytes wrong.0) ∙ ap (λ (es : Result (List Entry) Fault). es >>= λ l. Ok (fields_from l)) fault_read
      ∙ ap (λ (p : ℕ). Err (record { kind = kind; at = p })) (from_front _ ∙ sym wrong.1.3)
]

-- what bytes decode to holds of them
pub decodes_to : (bytes : List ℕ) → AreBytes bytes → Answered (λ r. IsFrame r bytes) (λ f. FaultAt bytes f.kind f.at) (decoded bytes)
decodes_to bytes are_bytes = elim (limit_step bytes) [
  | Passes limit long is ↦ Failed (record { kind = TooLong; at = limit }) (inl (refl, long)) (decoded-long bytes limit is)
  | Keeps short is ↦ elim (found frames frame 0 [] bytes are_bytes) [
    | Whole es rest end place after may parts place_is is ↦
        let whole = whole_entries end es after in
        let nothing : rest ≡ [] = subst (λ (e : Option FaultKind). MayFollow e rest) whole.ends may in
        let spelt : bytes ≡ spelling frame (entries whole.report) =
        parts ∙ ap₂ (λ (l : List Entry) (r : List ℕ). spelling frame l ++ r) whole.is nothing
        ∙ append-nil (spelling frame (entries whole.report)) in
        let frame_of_report : IsFrame whole.report bytes = record {
          range = subst (λ (e : Option FaultKind). After frame (entries whole.report) (IsEnd e)) whole.ends
              (subst (λ (l : List Entry). After frame l (IsEnd end)) whole.is after);
          spelt = spelt;
          short = short_enough whole.report bytes spelt short;
        } in
        Found whole.report frame_of_report (decoded-frame whole.report bytes frame_of_report)
    | Wrong es rest kind place after parts place_is is ↦
        let fault : FaultAt bytes kind place = inr (short, (es, rest, parts, place_is ∙ from_front _, after)) in
        Failed (record { kind = kind; at = place }) fault (decoded-fault bytes kind place fault)
  ]
]
