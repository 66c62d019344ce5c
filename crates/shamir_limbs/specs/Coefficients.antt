-- Three polynomials, as lists of coefficients from the lowest.
use Rattle.std.specs.Prelude.{ℕ, ◌-◌, List, ◌∷◌, map, replicate}
use Rattle.poly61.specs.Poly.{value}

-- the value of each at x
abbrev pub values : List (List ℕ) → ℕ → List ℕ
values polynomials x = map (λ f. value f x) polynomials

-- the numbers as constant polynomials, with k coefficients each
abbrev pub constants : List ℕ → ℕ → List (List ℕ)
constants numbers k = map (λ c. c ∷ replicate (k - 1) 0) numbers
