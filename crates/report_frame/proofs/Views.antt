-- The parts of a frame, and what follows for a call that answers what its bytes decode to.
use Rattle.std.proofs.Common.{◌≡◌, ℕ, ◌-◌, ◌<◌, ◌^◌, List, [], length, take, None, Result, Ok, Err, refl, ap, ◌∙◌, arith, inl, inr, length-append}
use Rattle.std.specs.Prelude.{IsOkAnd, IfErr, IsErrOf}
use Rattle.std.proofs.lemmas.Bool.{cases_lt}
use Rattle.star_io.specs.Bytes.{AreBytes}
use Rattle.report_frame.specs.declared.limits.TheConstants.{SEAL_BYTES, MAX_FRAME_TWO}
use Rattle.report_frame.specs.declared.fault.FaultKind.{FaultKind}
use Rattle.report_frame.specs.declared.fault.Fault.{Fault}
use Rattle.report_frame.specs.declared.parts.Parts.{Parts}
use Rattle.report_frame.specs.declared.view.FrameView.{FrameView}
use Rattle.byte_format.specs.Format.{Entry, spelling}
use Rattle.report_frame.specs.Frame.{Fields, IsFrame, FaultAt, entries, frame}
use Rattle.byte_format.specs.Reading.{◌>>=◌, Gives, read}
use Rattle.report_frame.specs.Reading.{frames, passed_limit, decoded, fields_from}
use Rattle.report_frame.specs.Parts.{fields_of_parts, ViewsFrame}
use Rattle.report_frame.specs.View.{fields_of}
use Rattle.report_frame.proofs.Frames.{decoded-short, fields-entries, decoded-frame, decoded-fault}
use Rattle.report_frame.proofs.FrameLaws.{decoded_frame, decoded_fault, sealed_part_of_frame}

-- ---- the parts that were read

-- the bytes are the frame of their fields
pub frame_of_parts : (bytes : List ℕ) (p : Parts) → AreBytes bytes → passed_limit bytes ≡ None → read frames frame 0 [] bytes
    ≡ Ok (entries (fields_of_parts p)) → IsFrame (fields_of_parts p) bytes
frame_of_parts bytes p are_bytes short is =
    (decoded_frame bytes (fields_of_parts p) are_bytes).0
    (decoded-short bytes short ∙ ap (λ (es : Result (List Entry) Fault). es >>= λ l. Ok (fields_from l)) is
    ∙ ap (λ (f : Fields). Ok f) (fields-entries (fields_of_parts p)))

-- and all but the seal is their sealed part
pub views_frame : (bytes sealed : List ℕ) (p : Parts) → IsFrame (fields_of_parts p) bytes → sealed ≡ take (length bytes - SEAL_BYTES) bytes
    → ViewsFrame p sealed
views_frame bytes sealed p of_p is = record { range = of_p.range; sealed_is = is ∙ sealed_part_of_frame (fields_of_parts p) bytes of_p }

-- ---- the answer

-- the place of a fault has four bytes
pub fault_place : (bytes : List ℕ) (f : Fault) → AreBytes bytes → decoded bytes ≡ Err f → f.at < 2 ^ 32
fault_place bytes f are_bytes is = elim ((decoded_fault bytes f are_bytes).0 is) [
  | inl long ↦ elim long.1 [ inl two ↦ omega (arith, two.1) | inr one ↦ omega (arith, one.3) ]
  | inr inside ↦ elim (cases_lt MAX_FRAME_TWO (length bytes)) [
    | inl over ↦ absurd (inside.0 MAX_FRAME_TWO (inl (over, refl)))
    | inr within ↦ omega (arith, within, inside.1.3, ap length inside.1.2, length-append (spelling frame inside.1.0) inside.1.1)
  ]
]

-- a frame is answered by its report
pub only_given : (bytes : List ℕ) (result : Result FrameView Fault) → Gives fields_of result (decoded bytes) → (r : Fields)
    → IsFrame r bytes → IsOkAnd result (λ v. fields_of v ≡ r)
only_given bytes (Ok v) given r of_r = let is = decoded-frame r bytes of_r in cc
only_given bytes (Err f) given r of_r = let is = decoded-frame r bytes of_r in absurd cc

-- a fault that is answered is one of the bytes
pub fault_given : (bytes : List ℕ) (result : Result FrameView Fault) → AreBytes bytes → Gives fields_of result (decoded bytes)
    → IfErr result (λ f. FaultAt bytes f.kind f.at)
fault_given bytes (Ok v) are_bytes given = tt
fault_given bytes (Err f) are_bytes given = (decoded_fault bytes f are_bytes).0 given

-- and one of the bytes is answered
pub one_given : (bytes : List ℕ) (result : Result FrameView Fault) → Gives fields_of result (decoded bytes) → (kind : FaultKind) (at : ℕ)
    → FaultAt bytes kind at → IsErrOf result (record { kind = kind; at = at })
one_given bytes (Ok v) given kind at at_fault = let is = decoded-fault bytes kind at at_fault in absurd cc
one_given bytes (Err f) given kind at at_fault = let is = decoded-fault bytes kind at at_fault in cc
