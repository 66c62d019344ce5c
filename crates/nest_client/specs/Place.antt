-- Where the body is in a frame, and how long frames are.
use Rattle.std.specs.Prelude.{ℕ, ◌+◌, ◌-◌, List, [], ◌∷◌, ◌++◌, length, slice_range}
use Rattle.std.specs.List.{sum_by}
use Rattle.report_frame.specs.declared.limits.TheConstants.{FIXED_BYTES, FRONT_BYTES, NONCE_BYTES, SEAL_BYTES}
use Rattle.byte_format.specs.Format.{spelling}
use Rattle.byte_format.specs.Format.Entry.{Number, Bytes}
use Rattle.report_frame.specs.Frame.{Fields, frame, front_entries}

-- the bytes of a frame before its body
abbrev pub before_body : Fields → List ℕ
before_body r =
    spelling frame (front_entries r ++ (Number (length r.boxed) ∷ Bytes r.boxed ∷ Bytes r.nonce ∷ Number (length r.body) ∷ []))

-- how many they are if the box has so many bytes
abbrev pub body_start : ℕ → ℕ
body_start boxed = FRONT_BYTES + 1 + boxed + NONCE_BYTES + 2

-- what is in the place of the body in a frame whose box has so many bytes
abbrev pub body_in : List ℕ → ℕ → List ℕ
body_in frame boxed = slice_range frame (body_start boxed) (length frame - SEAL_BYTES)

-- the bytes that the layers of these values take: a frame each without its body, and the first byte of its body
abbrev pub layers_bytes : List (List ℕ) → ℕ
layers_bytes values = sum_by (λ v. FIXED_BYTES + 1 + length v) values

-- the bytes of a report of these values with these extra bytes
abbrev pub report_bytes : List (List ℕ) → List ℕ → ℕ
report_bytes values extra = layers_bytes values + length extra
