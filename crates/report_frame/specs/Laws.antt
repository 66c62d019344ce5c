-- What the laws of frames say.
use Rattle.std.specs.Prelude.{◌≡◌, ℕ, ◌<◌, ◌≤◌, ◌^◌, List, length}
use Rattle.field61.specs.declared.TheConstants.{MODULUS}
use Rattle.report_frame.specs.declared.limits.TheConstants.{MIN_THRESHOLD, TAG_BYTES, CHECK_BYTES, MAX_VALUE, NONCE_BYTES, SEAL_BYTES}
use Rattle.report_frame.specs.declared.fault.Fault.{Fault}
use Rattle.report_frame.specs.Versions.{max_level, max_threshold}
use Rattle.report_frame.specs.Frame.{Fields, IsFrame, FaultAt}

-- each field of the report is in its range
pub record InRange (r : Fields) : Type 0 where
  pub level : r.level ≤ max_level r.version
  pub epoch : r.epoch < 2 ^ 32
  pub k_low : MIN_THRESHOLD ≤ r.k
  pub k_high : r.k ≤ max_threshold r.version
  pub x_low : 1 ≤ r.x
  pub x_high : r.x < MODULUS
  pub y0 : r.y0 < MODULUS
  pub y1 : r.y1 < MODULUS
  pub y2 : r.y2 < MODULUS
  pub tag : length r.tag ≡ TAG_BYTES
  pub check : length r.check ≡ CHECK_BYTES
  pub box_low : 1 ≤ length r.boxed
  pub box_high : length r.boxed ≤ MAX_VALUE
  pub nonce : length r.nonce ≡ NONCE_BYTES
  pub body : 1 ≤ length r.body
  pub seal : length r.seal ≡ SEAL_BYTES

-- The bytes are the frame of one report alone, and have no fault.
pub record IsOneFrame (bytes : List ℕ) : Type 0 where
  pub report : Fields
  pub is_frame : IsFrame report bytes
  pub only : (r : Fields) → IsFrame r bytes → r ≡ report
  pub no_fault : (f : Fault) → FaultAt bytes f.kind f.at → ⊥

-- The bytes have one fault alone, and are the frame of no report.
pub record HasOneFault (bytes : List ℕ) : Type 0 where
  pub fault : Fault
  pub is_fault : FaultAt bytes fault.kind fault.at
  pub only : (f : Fault) → FaultAt bytes f.kind f.at → f ≡ fault
  pub no_frame : (r : Fields) → IsFrame r bytes → ⊥
