-- The polynomial that vanishes at given points and nowhere else: the product of the (x - a) over them.
use Rattle.std.specs.Prelude.{ℕ, ◌+◌, ◌≡◌, List, [], ◌∷◌, length}
use Rattle.field61.specs.Field.{field_difference, field_product, AreElements}
use Rattle.poly61.specs.Poly.{value, HasDegreeBelow}

-- f · (x - a) + lowest · 1, where `lowest` is the coefficient below those of f
abbrev pub linear_from : ℕ → List ℕ → ℕ → List ℕ
linear_from lowest [] a = lowest ∷ []
linear_from lowest (c ∷ cs) a = field_difference lowest (field_product a c) ∷ linear_from c cs a

-- f · (x - a)
abbrev pub linear_product : List ℕ → ℕ → List ℕ
linear_product f a = linear_from 0 f a

-- the product of the (x - a) over the list: one coefficient more than points
abbrev pub vanishing_of : List ℕ → List ℕ
vanishing_of [] = 1 ∷ []
vanishing_of (a ∷ rest) = linear_product (vanishing_of rest) a

-- the product of the numbers z - a over the list
abbrev pub difference_product : List ℕ → ℕ → ℕ
difference_product [] z = 1
difference_product (a ∷ rest) z = field_product (field_difference z a) (difference_product rest z)

-- f is the product of the (x - a) over the list times another polynomial
pub record IsVanishingMultiple (f xs : List ℕ) : Type 0 where
  pub quotient : List ℕ
  pub elements : AreElements quotient
  pub product : (z : ℕ) → value f z ≡ field_product (difference_product xs z) (value quotient z)
  pub below : (m : ℕ) → HasDegreeBelow f (length xs + m) → HasDegreeBelow quotient m
