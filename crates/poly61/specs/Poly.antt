-- A polynomial is the list of its coefficients from the lowest. Zeros at its end don't count.
use Rattle.std.specs.Prelude.{ℕ, ◌+◌, ◌≤◌, ◌<◌, ◌≡◌, ◌≢◌, List, [], ◌∷◌, length, slice_index}
use Rattle.field61.specs.Field.{field_sum, field_difference, field_product, AreElements}

-- the value at x, by Horner's rule
abbrev pub value : List ℕ → ℕ → ℕ
value [] x = 0
value (c ∷ cs) x = field_sum c (field_product x (value cs x))

-- each coefficient is 0
abbrev pub IsZero : List ℕ → Type 0
IsZero f = (i : ℕ) → slice_index f i ≡ 0

-- the coefficients from place n on are 0
abbrev pub HasDegreeBelow : List ℕ → ℕ → Type 0
HasDegreeBelow f n = (i : ℕ) → n ≤ i → slice_index f i ≡ 0

-- place d has the last coefficient that is not 0
pub record HasDegree (f : List ℕ) (d : ℕ) : Type 0 where
  pub top : slice_index f d ≢ 0
  pub above : HasDegreeBelow f (d + 1)

-- the lists are one polynomial
abbrev pub SameCoefficients : List ℕ → List ℕ → Type 0
SameCoefficients f g = (i : ℕ) → slice_index f i ≡ slice_index g i

-- product is f · (x - a) + rest
abbrev pub IsLinearMultiple : List ℕ → List ℕ → ℕ → ℕ → Type 0
IsLinearMultiple product f a rest =
    (i : ℕ) → slice_index product i ≡ field_difference (slice_index (rest ∷ f) i) (field_product a (slice_index f i))

-- new is old - c · x^shift · other
pub record TakesOff (old new : List ℕ) (c shift : ℕ) (other : List ℕ) : Type 0 where
  pub low : (i : ℕ) → i < shift → slice_index new i ≡ slice_index old i
  pub rest : (i : ℕ) → slice_index new (shift + i)
      ≡ field_difference (slice_index old (shift + i)) (field_product c (slice_index other i))

-- no two of the numbers are equal
abbrev pub AreDistinct : List ℕ → Type 0
AreDistinct xs = (i j : ℕ) → i < j → j < length xs → slice_index xs i ≢ slice_index xs j

-- at each x the polynomial has the value y
abbrev pub PassesThrough : List ℕ → List ℕ → List ℕ → Type 0
PassesThrough f xs ys = (i : ℕ) → i < length xs → value f (slice_index xs i) ≡ slice_index ys i

-- what the buffer of a polynomial keeps: field elements, which are 0 from this place on
pub record HoldsPlaces (coefficients : List ℕ) (places : ℕ) : Type 0 where
  pub elements : AreElements coefficients
  pub within : places ≤ length coefficients
  pub below : HasDegreeBelow coefficients places
