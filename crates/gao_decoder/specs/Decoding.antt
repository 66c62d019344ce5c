-- Unique decoding of the points of a polynomial where some of them are wrong (Gao 2003).
use Rattle.std.specs.Prelude.{ℕ, ◌+◌, ◌*◌, ◌<◌, ◌≤◌, ◌≡◌, List, ◌∷◌, length, slice_index, cond, nat_eq}
use Rattle.field61.specs.Field.{AreElements}
use Rattle.poly61.specs.Poly.{value, HasDegreeBelow}

-- at how many of the points the polynomial has the value y
abbrev pub agreement : List ℕ → List ℕ → List ℕ → ℕ
agreement f (x ∷ xs) (y ∷ ys) = cond (nat_eq (value f x) y) 1 0 + agreement f xs ys
agreement f _ _ = 0

-- a polynomial of degree below k that agrees with m of the n points, where 2m is at least n + k
pub record IsDecoded (f xs ys : List ℕ) (k : ℕ) : Type 0 where
  pub elements : AreElements f
  pub below : HasDegreeBelow f k
  pub agrees : length xs + k ≤ 2 * agreement f xs ys

-- at each of the first k points the polynomial has the value y
abbrev pub PassesFirst : List ℕ → List ℕ → List ℕ → ℕ → Type 0
PassesFirst f xs ys k = (i : ℕ) → i < k → value f (slice_index xs i) ≡ slice_index ys i

-- it is decoded, and passes through the first k points
pub record IsDecodedShort (f xs ys : List ℕ) (k : ℕ) : Type 0 where
  pub decoded : IsDecoded f xs ys k
  pub passes : PassesFirst f xs ys k
