-- The choice of k points at which a polynomial is not 0, and the polynomial through them.
use Rattle.std.specs.Prelude.{ℕ, ◌+◌, ◌≤◌, ◌<◌, ◌≡◌, ◌≢◌, List, [], ◌∷◌, length, slice_index, cond, nat_eq, not}
use Rattle.poly61.specs.Poly.{value}
use Rattle.poly61.specs.Counts.{count_to}

-- at how many of the x the value is not 0
abbrev pub nonzero_count : List ℕ → List ℕ → ℕ
nonzero_count w [] = 0
nonzero_count w (x ∷ xs) = cond (nat_eq (value w x) 0) 0 1 + nonzero_count w xs

-- Of the first i points those at which the work vanishes are chosen: there the candidate has the value y, and w is not 0.
pub record IsChosen (xs ys w candidate work : List ℕ) (i chosen k : ℕ) : Type 0 where
  pub passes : (j : ℕ) → j < i → value work (slice_index xs j) ≡ 0 → value candidate (slice_index xs j) ≡ slice_index ys j
  pub nonzero : (j : ℕ) → j < i → value work (slice_index xs j) ≡ 0 → value w (slice_index xs j) ≢ 0
  pub ahead : (j : ℕ) → i ≤ j → j < length xs → value work (slice_index xs j) ≢ 0
  pub many : chosen ≤ count_to i (λ j. nat_eq (value work (slice_index xs j)) 0)
  pub all : chosen < k → count_to i (λ j. not (nat_eq (value w (slice_index xs j)) 0)) ≤ chosen
