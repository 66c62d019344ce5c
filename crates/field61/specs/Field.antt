-- Arithmetic modulo the prime 2^61 - 1, on natural numbers. No proof above this crate opens these words: it uses the
-- laws of proofs/FieldLaws.
use Rattle.std.specs.Prelude.{ℕ, ◌+◌, ◌-◌, ◌*◌, ◌%◌, ◌^◌, ◌<◌, List, All}
use Rattle.field61.specs.declared.TheConstants.{MODULUS}

unfoldable pub field_sum : ℕ → ℕ → ℕ
field_sum a b = (a + b) % MODULUS

-- what is added to a number to give 0
unfoldable pub field_negative : ℕ → ℕ
field_negative a = (MODULUS - a % MODULUS) % MODULUS

unfoldable pub field_difference : ℕ → ℕ → ℕ
field_difference a b = (a + (MODULUS - b % MODULUS)) % MODULUS

unfoldable pub field_product : ℕ → ℕ → ℕ
field_product a b = (a * b) % MODULUS

unfoldable pub field_power : ℕ → ℕ → ℕ
field_power a e = a ^ e % MODULUS

-- each is a field element
abbrev pub AreElements : List ℕ → Type 0
AreElements xs = All (λ x. x < MODULUS) xs
