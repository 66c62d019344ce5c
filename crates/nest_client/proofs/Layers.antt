-- Coins, seals and shares of a layer.
use Rattle.std.proofs.Common.{◌≡◌, ◌∙◌, ◌≤◌, ℕ, ◌+◌, ◌-◌, List, [], ◌∷◌, ◌++◌, length, take, drop, get_or, slice_index, slice_range, refl, ap, ap₂, sym, append_assoc, arith}
use Rattle.std.proofs.lemmas.List.{take_at, drop_at, take_all, length-drop, take-append-drop}
use Rattle.chacha_stream.specs.Keystream.{keystream}
use Rattle.chacha_stream.proofs.StreamLaws.{keystream_length, split}
use Rattle.field61.specs.Field.{field_sum}
use Rattle.field61.proofs.FieldLaws.{sum_below, sum_zero}
use Rattle.report_frame.specs.declared.limits.TheConstants.{MAX_LAYERS, MAX_FRAME_ONE}
use Rattle.report_frame.specs.declared.version.Version.{Version}
use Rattle.report_frame.specs.declared.version.Version.TheVariants.{One, Two}
use Rattle.report_frame.specs.Versions.{max_layers, max_frame}
use Rattle.report_frame.specs.Frame.{Fields, IsFrame, sealed_part}
use Rattle.report_frame.proofs.FrameLaws.{sealed_then_seal}
use Rattle.shamir_limbs.specs.Coefficients.{values}
use Rattle.adss_commit.specs.declared.context.Context.{Context}
use Rattle.adss_commit.specs.declared.context.Derived.{Derived}
use Rattle.adss_commit.specs.Derivation.{polynomial, polynomials, derived, box_of, body_key_of, body_of, seal_key_of}
use Rattle.nest_client.specs.declared.client.Client.{Client}
use Rattle.nest_client.specs.Report.{coins, point_of, nonce_of, layer, frame_of, sealed_by, share, plain_body, report_from}

-- a part of the keystream with which bytes begin
pub part-of_keystream : (key nonce : List ℕ) (n from count : ℕ) (bytes : List ℕ) → from + count ≤ n → take n bytes ≡ keystream key nonce 0 0 n
    → slice_range bytes from (from + count) ≡ keystream key nonce 0 from count
part-of_keystream key nonce n from count bytes within drawn =
    let before : List ℕ = keystream key nonce 0 0 from in
    let part : List ℕ = keystream key nonce 0 from count in
    let after : List ℕ = keystream key nonce 0 (from + count) (n - (from + count)) in
    let rest : List ℕ = drop n bytes in
    let size : n ≡ from + (count + (n - (from + count))) = omega arith in
    let start : 0 + from ≡ from = omega arith in
    let count_is : from + count - from ≡ count = omega arith in
    let front : take n bytes ≡ before ++ (part ++ after) =
    drawn ∙ ap (keystream key nonce 0 0) size ∙ split key nonce 0 0 from (count + (n - (from + count)))
    ∙ ap (λ (s : ℕ). before ++ keystream key nonce 0 s (count + (n - (from + count)))) start
    ∙ ap (λ (more : List ℕ). before ++ more) (split key nonce 0 from count (n - (from + count))) in
    let whole : bytes ≡ before ++ (part ++ (after ++ rest)) =
    sym (take-append-drop n bytes) ∙ ap (λ (xs : List ℕ). xs ++ rest) front ∙ append_assoc before (part ++ after) rest
    ∙ ap (λ (more : List ℕ). before ++ more) (append_assoc part after rest) in
    ap₂ (λ (k : ℕ) (xs : List ℕ). take k (drop from xs)) count_is whole
    ∙ ap (take count) (drop_at before (part ++ (after ++ rest)) from (keystream_length key nonce 0 0 from))
    ∙ take_at part (after ++ rest) count (keystream_length key nonce 0 from count)

-- the bytes before a seal and the seal are the frame of a report that has one
pub sealed_is_frame : (r : Fields) (bytes : List ℕ) → IsFrame r (frame_of r) → bytes ≡ sealed_part r ++ r.seal → bytes ≡ frame_of r
sealed_is_frame r bytes of_r is = is ∙ sym (sealed_then_seal r (frame_of r) of_r)

-- a frame is the one of its report
pub frame_is : (r : Fields) (bytes : List ℕ) → IsFrame r bytes → bytes ≡ frame_of r
unfolding frame_of
frame_is r bytes of_r = of_r.spelt

-- a report without a shift has the share of its context
pub own_share : (c : Client) (x : Context) (plain : List ℕ) → (layer c 0 x plain).y0 ≡ share x (coins c x.level) 0
unfolding layer polynomial
own_share c x plain = sum_zero (share x (coins c x.level) 0) (sum_below _ _)

-- the report of a context from its parts
pub layer_made : (c : Client) (shift : ℕ) (x : Context) (plain : List ℕ) (cs : List ℕ) (point : ℕ) (nonce : List ℕ) (d : Derived) (polys : List (List ℕ))
    (ys : List ℕ) (first second third y0 : ℕ) (key body boxed seal_key : List ℕ)
    → cs ≡ coins c x.level → point ≡ point_of cs → nonce ≡ nonce_of cs → d ≡ derived x → polys ≡ polynomials x → ys ≡ values polys point
    → y0 ≡ field_sum (get_or ys 0 first) shift
    → key ≡ body_key_of x.version d.key.bytes → body ≡ body_of key nonce plain → boxed ≡ box_of x.version d.key.bytes x.value → seal_key ≡ seal_key_of x.version d.key.bytes
    → sealed_by seal_key (record {
      version = x.version;
      level = x.level;
      epoch = x.epoch;
      k = x.k;
      x = point;
      y0 = y0;
      y1 = get_or ys 1 second;
      y2 = get_or ys 2 third;
      tag = d.tag;
      check = d.check;
      boxed = boxed;
      nonce = nonce;
      body = body;
      seal = [];
    }) ≡ layer c shift x plain
unfolding layer
layer_made c shift x plain cs point nonce d polys ys first second third y0 key body boxed seal_key
    coins_is point_is nonce_is derived_is polys_is ys_is y0_is key_is body_is boxed_is seal_key_is =
    let values_are : ys ≡ values (polynomials x) point = ys_is ∙ ap (λ (ps : List (List ℕ)). values ps point) polys_is in
    let value_0 : get_or ys 0 first ≡ slice_index (values (polynomials x) point) 0 = ap (λ (l : List ℕ). get_or l 0 first) values_are in
    let value_1 : get_or ys 1 second ≡ slice_index (values (polynomials x) point) 1 = ap (λ (l : List ℕ). get_or l 1 second) values_are in
    let value_2 : get_or ys 2 third ≡ slice_index (values (polynomials x) point) 2 = ap (λ (l : List ℕ). get_or l 2 third) values_are in
    rw (y0_is, value_0, value_1, value_2, body_is, boxed_is, seal_key_is, key_is, point_is, nonce_is, derived_is, coins_is) refl

-- the slice from the second item on
pub rest_is : {X : Type 0} (xs : List X) → take (length xs - 1) (drop 1 xs) ≡ drop 1 xs
rest_is xs = take_all (length xs - 1) (drop 1 xs) (omega (arith, length-drop 1 xs))

-- the plain body before some layers is the byte 1 and the frame of the report of these layers
pub plain_is : (c : Client) (extra : List ℕ) (level : ℕ) (parent : List ℕ) (vs : List (List ℕ)) (ks : List ℕ) → 1 ≤ length vs → length vs ≡ length ks
    → plain_body c extra level parent vs ks ≡ 1 ∷ frame_of (report_from c extra level parent 0 vs ks)
unfolding plain_body
plain_is c extra level parent [] ks some width = absurd (omega arith)
plain_is c extra level parent (v ∷ vs) [] some width = absurd (omega arith)
plain_is c extra level parent (v ∷ vs) (k ∷ ks) some width = refl

-- if there are no layers it is the byte 0 and the extra bytes
pub last_is : (c : Client) (extra : List ℕ) (level : ℕ) (parent : List ℕ) (vs : List (List ℕ)) (ks : List ℕ) → length vs ≡ 0
    → plain_body c extra level parent vs ks ≡ 0 ∷ extra
unfolding plain_body
last_is c extra level parent [] ks none = refl
last_is c extra level parent (v ∷ vs) ks none = absurd (omega arith)

-- no version has more layers than there is room for, nor shorter frames than version 1
pub layers_within : (v : Version) → max_layers v ≤ MAX_LAYERS
layers_within One = omega arith
layers_within Two = omega arith

pub frame_room : (v : Version) → MAX_FRAME_ONE ≤ max_frame v
frame_room One = omega arith
frame_room Two = omega arith
