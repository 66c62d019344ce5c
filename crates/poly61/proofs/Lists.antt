-- Lists of coefficients as functions from the place to the coefficient.
use Rattle.std.proofs.Common.{ℕ, zero, suc, ◌+◌, ◌-◌, ◌<◌, ◌≤◌, ◌≡◌, ◌∙◌, sym, ap, refl, arith, subst, inl, inr, List, [], ◌∷◌, length, get_or, drop, take}
use Rattle.std.proofs.lemmas.Grind.{common_steps}
use Rattle.std.proofs.lemmas.Bool.{cases_lt}
use Rattle.std.proofs.lemmas.List.{get_or_past, get_or-take}
use Rattle.std.proofs.lemmas.List.Elements.{All-get_or, All-from_get_or}
use Rattle.field61.specs.declared.TheConstants.{MODULUS}
use Rattle.field61.specs.Field.{field_sum, field_product, AreElements}
use Rattle.field61.proofs.FieldLaws.{modulus_positive, sum_below}
use Rattle.poly61.specs.Poly.{value, HasDegreeBelow, SameCoefficients}
use Rattle.poly61.proofs.Places.{IsZeroFrom, IsBounded, value_to, value_to-same, value_to-enough}

abbrev pub coefficient_of : List ℕ → ℕ → ℕ
coefficient_of f i = get_or f i 0

pub coefficient_of-past : (f : List ℕ) → IsZeroFrom (coefficient_of f) (length f)
coefficient_of-past f i past = get_or_past f i 0 past

-- each coefficient is a field element, also past the list
pub AreElements-bounded : (f : List ℕ) → AreElements f → IsBounded (coefficient_of f)
AreElements-bounded f elements i = elim (cases_lt i (length f)) [
  | inl within ↦ All-get_or (λ x. x < MODULUS) f i 0 within elements
  | inr past ↦ subst (λ x. x < MODULUS) (sym (get_or_past f i 0 past)) modulus_positive
]

pub AreElements-from_bounded : (f : List ℕ) → IsBounded (coefficient_of f) → AreElements f
AreElements-from_bounded f below = All-from_get_or (λ x. x < MODULUS) f 0 (λ i _. below i)

pub value-value_to : (f : List ℕ) (x : ℕ) → value f x ≡ value_to (length f) (coefficient_of f) x
value-value_to [] x = refl
value-value_to (c ∷ cs) x = ap (λ v. field_sum c (field_product x v)) (value-value_to cs x)

-- with places enough
pub value-room : (n : ℕ) (f : List ℕ) (x : ℕ) → length f ≤ n → value f x ≡ value_to n (coefficient_of f) x
value-room n f x enough = value-value_to f x ∙ sym (value_to-enough n (length f) (coefficient_of f) x enough (coefficient_of-past f))

-- with the places that count
pub value-places : (n : ℕ) (f : List ℕ) (x : ℕ) → HasDegreeBelow f n → value f x ≡ value_to n (coefficient_of f) x
value-places n f x below = value-room (length f + n) f x (omega arith) ∙ value_to-enough (length f + n) n (coefficient_of f) x (omega arith) below

pub value-same : (f g : List ℕ) (x : ℕ) → SameCoefficients f g → value f x ≡ value g x
value-same f g x same =
    value-room (length f + length g) f x (omega arith) ∙ value_to-same (length f + length g) (coefficient_of f) (coefficient_of g) x (λ i _. same i)
    ∙ sym (value-room (length f + length g) g x (omega arith))

pub value-below : (f : List ℕ) (x : ℕ) → value f x < MODULUS
value-below [] x = modulus_positive
value-below (c ∷ cs) x = sum_below c _

-- the places that count are the polynomial
pub take-same : (n : ℕ) (f : List ℕ) → HasDegreeBelow f n → SameCoefficients (take n f) f
take-same n f below i = elim (cases_lt i n) [
  | inl within ↦ get_or-take n f i 0 within
  | inr past ↦ get_or_past (take n f) i 0 (omega (arith, length_take n f)) ∙ sym (below i past)
]
  where
    length_take : (n : ℕ) (f : List ℕ) → length (take n f) ≤ n
    length_take zero f = omega arith
    length_take (suc n) [] = omega arith
    length_take (suc n) (c ∷ cs) = let rest : length (take n cs) ≤ n = length_take n cs in omega arith

-- one step of Horner's rule
pub value-drop : (f : List ℕ) (i x : ℕ) → 0 < i → i ≤ length f → value (drop (i - 1) f) x ≡ field_sum (get_or f (i - 1) 0) (field_product x (value (drop i f) x))
value-drop f i x positive within = grind (arith, common_steps)
