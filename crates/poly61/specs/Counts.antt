-- Counts of what passes a test.
use Rattle.std.specs.Prelude.{ℕ, zero, suc, ◌+◌, Bool, cond}

-- how many of the first n indices pass the test
abbrev pub count_to : ℕ → (ℕ → Bool) → ℕ
count_to zero p = 0
count_to (suc n) p = cond (p 0) 1 0 + count_to n (λ i. p (suc i))
