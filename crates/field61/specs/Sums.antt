-- Sums of many terms.
use Rattle.std.specs.Prelude.{ℕ, zero, suc, ◌+◌}
use Rattle.field61.specs.Field.{field_sum}

-- the sum of the first n terms, in the field
abbrev pub field_total : ℕ → (ℕ → ℕ) → ℕ
field_total zero term = 0
field_total (suc n) term = field_sum (term 0) (field_total n (λ i. term (suc i)))

-- and as numbers
abbrev pub plain_total : ℕ → (ℕ → ℕ) → ℕ
plain_total zero term = 0
plain_total (suc n) term = term 0 + plain_total n (λ i. term (suc i))
