-- The laws of frames, for the layers above.
use Rattle.std.proofs.Common.{◌≡◌, ℕ, ◌+◌, ◌-◌, ◌≤◌, ◌^◌, List, [], ◌∷◌, ◌++◌, length, take, Some, Ok, Err, refl, sym, ap, subst, ◌∙◌, rules, arith, inl, inr, length-append}
use Rattle.std.specs.Prelude.{◌⊎◌, ◌↔◌}
use Rattle.std.proofs.lemmas.List.{take_at, append-nil}
use Rattle.star_io.specs.Bytes.{AreBytes}
use Rattle.field61.specs.declared.TheConstants.{MODULUS}
use Rattle.report_frame.specs.declared.limits.TheConstants.{SEAL_BYTES, FIXED_BYTES}
use Rattle.report_frame.specs.declared.fault.Fault.{Fault}
use Rattle.report_frame.specs.declared.version.Version.{Version}
use Rattle.report_frame.specs.Versions.{version_number, version_of, max_level, max_threshold, max_frame}
use Rattle.byte_format.specs.Format.{After, IsEnd, spelling}
use Rattle.report_frame.specs.Frame.{Fields, IsFrame, FaultAt, entries, frame, sealed_part, sealed_entries}
use Rattle.byte_format.specs.Reading.{read}
use Rattle.byte_format.proofs.Answered.{Found, Failed, good_exactly, bad_exactly}
use Rattle.byte_format.proofs.Spelt.{read-whole, read-trailing, spelling-last}
use Rattle.report_frame.specs.declared.fault.FaultKind.TheVariants.{Trailing}
use Rattle.report_frame.specs.Reading.{frames, decoded}
use Rattle.report_frame.specs.Laws.{InRange, IsOneFrame, HasOneFault}
use Rattle.report_frame.proofs.VersionFacts.{version_of_number, number_low, number_high, frame_within}
use Rattle.report_frame.proofs.Frames.{frame_is_sound, decoded-frame, decoded-fault, decodes_to}

-- ---- decoding

-- bytes decode to a report exactly where they are its frame
pub decoded_frame : (bytes : List ℕ) (r : Fields) → AreBytes bytes → (decoded bytes ≡ Ok r) ↔ IsFrame r bytes
decoded_frame bytes r are_bytes =
    good_exactly (λ q. IsFrame q bytes) (λ f. FaultAt bytes f.kind f.at) (decoded bytes) (decodes_to bytes are_bytes)
    (λ q of_q. decoded-frame q bytes of_q) r

-- and to a fault exactly where it is theirs
pub decoded_fault : (bytes : List ℕ) (fault : Fault) → AreBytes bytes → (decoded bytes ≡ Err fault) ↔ FaultAt bytes fault.kind fault.at
decoded_fault bytes fault are_bytes =
    bad_exactly (λ q. IsFrame q bytes) (λ f. FaultAt bytes f.kind f.at) (decoded bytes) (decodes_to bytes are_bytes)
    (λ f at_f. decoded-fault bytes f.kind f.at at_f) fault

-- ---- one report, one spelling, one fault

-- a report has one spelling
pub one_spelling : (r : Fields) (a b : List ℕ) → IsFrame r a → IsFrame r b → a ≡ b
one_spelling r a b of_a of_b = of_a.spelt ∙ sym of_b.spelt

-- and a spelling one report
pub one_report : (r q : Fields) (bytes : List ℕ) → IsFrame r bytes → IsFrame q bytes → r ≡ q
one_report r q bytes of_r of_q = let a = decoded-frame r bytes of_r in let b = decoded-frame q bytes of_q in cc

-- bytes have one fault at most
pub one_fault : (bytes : List ℕ) (f g : Fault) → FaultAt bytes f.kind f.at → FaultAt bytes g.kind g.at → f ≡ g
one_fault bytes f g at_f at_g = let a = decoded-fault bytes f.kind f.at at_f in let b = decoded-fault bytes g.kind g.at at_g in cc

-- and a frame has none
pub no_fault_of_frame : (r : Fields) (bytes : List ℕ) (f : Fault) → IsFrame r bytes → FaultAt bytes f.kind f.at → ⊥
no_fault_of_frame r bytes f of_r at_f = let a = decoded-frame r bytes of_r in let b = decoded-fault bytes f.kind f.at at_f in cc

-- bytes are the frame of one report, or have one fault
pub frame_or_fault : (bytes : List ℕ) → AreBytes bytes → IsOneFrame bytes ⊎ HasOneFault bytes
frame_or_fault bytes are_bytes = elim (decodes_to bytes are_bytes) [
  | Found r of_r is ↦ inl (record {
    report = r;
    is_frame = of_r;
    only = λ q of_q. one_report q r bytes of_q of_r;
    no_fault = λ f at_f. no_fault_of_frame r bytes f of_r at_f;
  })
  | Failed fault at_fault is ↦ inr (record {
    fault = fault;
    is_fault = at_fault;
    only = λ f at_f. one_fault bytes f fault at_f at_fault;
    no_frame = λ r of_r. no_fault_of_frame r bytes fault of_r at_fault;
  })
]

-- no frame begins with another
pub no_prefix : (r q : Fields) (bytes more : List ℕ) → IsFrame r bytes → IsFrame q (bytes ++ more) → more ≡ []
no_prefix r q bytes [] of_r of_q = refl
no_prefix r q bytes (b ∷ more) of_r of_q =
    let goes_wrong =
    ap (λ (l : List ℕ). read frames frame 0 [] (l ++ b ∷ more)) of_r.spelt
    ∙ read-trailing frames frame 0 (entries r) Trailing b more frame_is_sound of_r.range in
    let goes_well =
    ap (read frames frame 0 []) (of_q.spelt ∙ sym (append-nil (spelling frame (entries q))))
    ∙ read-whole frames frame 0 (entries q) (Some Trailing) [] frame_is_sound of_q.range refl in
    absurd cc

-- ---- what is known of a frame

-- each field is in its range
pub range_of_entries : (r : Fields) → After frame (entries r) (IsEnd (Some Trailing)) → InRange r
range_of_entries r range =
    let version = version_of_number r.version in
    let level = range.2.2 in
    let epoch = level.2 in
    let k = epoch.2 in
    let x = k.2 in
    let y0 = x.2 in
    let y1 = y0.2 in
    let y2 = y1.2 in
    let tag = y2.2 in
    let check = tag.1 in
    let box_length = check.1 in
    let nonce = box_length.2.1 in
    let body_length = nonce.1 in
    let seal = body_length.2.1 in
    record {
      level = subst (λ (v : Version). r.level ≤ max_level v) version level.1;
      epoch = omega (arith, epoch.1);
      k_low = k.0;
      k_high = subst (λ (v : Version). r.k ≤ max_threshold v) version k.1;
      x_low = x.0;
      x_high = omega (arith, x.1);
      y0 = omega (arith, y0.1);
      y1 = omega (arith, y1.1);
      y2 = omega (arith, y2.1);
      tag = tag.0;
      check = check.0;
      box_low = box_length.0;
      box_high = box_length.1;
      nonce = nonce.0;
      body = body_length.0;
      seal = seal.0;
    }

pub in_range : (r : Fields) (bytes : List ℕ) → IsFrame r bytes → InRange r
in_range r bytes of_r = range_of_entries r of_r.range

-- the fields of fixed size take `FIXED_BYTES` bytes
spelling_length : (r : Fields) → InRange r → length (spelling frame (entries r)) ≡ FIXED_BYTES + length r.boxed + length r.body
spelling_length r range = omega (arith, length-append {A = ℕ}, range.tag, range.check, range.nonce, range.seal)

pub frame_length : (r : Fields) (bytes : List ℕ) → IsFrame r bytes → length bytes ≡ FIXED_BYTES + length r.boxed + length r.body
frame_length r bytes of_r = ap length of_r.spelt ∙ spelling_length r (in_range r bytes of_r)

-- a report in range has a frame, unless that is too long
pub has_frame : (r : Fields) → InRange r → FIXED_BYTES + length r.boxed + length r.body ≤ max_frame r.version
    → IsFrame r (spelling frame (entries r))
has_frame r range few =
    let version = sym (version_of_number r.version) in
    let number_is_low = number_low r.version in
    let number_is_high = number_high r.version in
    let level : r.level ≤ max_level (version_of (version_number r.version)) =
    subst (λ (v : Version). r.level ≤ max_level v) version range.level in
    let k : r.k ≤ max_threshold (version_of (version_number r.version)) =
    subst (λ (v : Version). r.k ≤ max_threshold v) version range.k_high in
    let epoch : r.epoch ≤ 2 ^ 32 - 1 = omega (arith, range.epoch) in
    let x : r.x ≤ MODULUS - 1 = omega (arith, range.x_high) in
    let y0 : r.y0 ≤ MODULUS - 1 = omega (arith, range.y0) in
    let y1 : r.y1 ≤ MODULUS - 1 = omega (arith, range.y1) in
    let y2 : r.y2 ≤ MODULUS - 1 = omega (arith, range.y2) in
    let body : length r.body ≤ 2 ^ 16 - 1 = omega (arith, few, frame_within r.version) in
    record { range = search (rules, arith); spelt = refl; short = omega (arith, spelling_length r range, few) }

-- a frame is its sealed part and its seal
pub sealed_then_seal : (r : Fields) (bytes : List ℕ) → IsFrame r bytes → bytes ≡ sealed_part r ++ r.seal
sealed_then_seal r bytes of_r = of_r.spelt ∙ spelling-last frame (sealed_entries r) r.seal (IsEnd (Some Trailing)) of_r.range

-- so both are its frame
pub has_sealed_frame : (r : Fields) → InRange r → FIXED_BYTES + length r.boxed + length r.body ≤ max_frame r.version
    → IsFrame r (sealed_part r ++ r.seal)
has_sealed_frame r range few =
    let of_r = has_frame r range few in
    subst (IsFrame r) (sealed_then_seal r (spelling frame (entries r)) of_r) of_r

-- so the sealed part is every byte before the seal
pub sealed_part_of_frame : (r : Fields) (bytes : List ℕ) → IsFrame r bytes → take (length bytes - SEAL_BYTES) bytes ≡ sealed_part r
sealed_part_of_frame r bytes of_r =
    let parts = sealed_then_seal r bytes of_r in
    let range = in_range r bytes of_r in
    let size : length (sealed_part r) ≡ length bytes - SEAL_BYTES =
    omega (arith, ap length parts, length-append (sealed_part r) r.seal, range.seal) in
    ap (take (length bytes - SEAL_BYTES)) parts ∙ take_at (sealed_part r) r.seal (length bytes - SEAL_BYTES) size
