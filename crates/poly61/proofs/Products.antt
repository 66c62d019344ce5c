-- The product of the (x - a) over a list of points.
use Rattle.std.proofs.Common.{ℕ, zero, suc, ◌+◌, ◌<◌, ◌≡◌, ◌∙◌, sym, ap, refl, arith, subst, inl, inr, List, [], ◌∷◌, length, get_or, drop}
use Rattle.field61.specs.declared.TheConstants.{MODULUS}
use Rattle.field61.specs.Field.{field_product, field_difference, AreElements}
use Rattle.field61.proofs.FieldLaws.{modulus_positive, modulus_above_one, difference_below, difference_is_zero, one_product, product_associates}
use Rattle.poly61.specs.Poly.{value, HasDegreeBelow, SameCoefficients, IsLinearMultiple, AreDistinct}
use Rattle.poly61.specs.Vanishing.{linear_from, vanishing_of, difference_product, IsVanishingMultiple}
use Rattle.poly61.proofs.Elements.{nothing_taken, other_factor, taken_back}
use Rattle.poly61.proofs.Places.{IsBounded}
use Rattle.poly61.proofs.Lists.{coefficient_of, coefficient_of-past, AreElements-bounded, AreElements-from_bounded, value-below}
use Rattle.poly61.proofs.Values.{linear_value, linear_root, IsLinearMultiple-top, value-one, value-zero}

pub linear_from-bounded : (lowest : ℕ) (f : List ℕ) (a : ℕ) → lowest < MODULUS → IsBounded (coefficient_of f) → IsBounded (coefficient_of (linear_from lowest f a))
linear_from-bounded lowest [] a below bounded zero = below
linear_from-bounded lowest [] a below bounded (suc i) = modulus_positive
linear_from-bounded lowest (c ∷ cs) a below bounded zero = difference_below lowest (field_product a c)
linear_from-bounded lowest (c ∷ cs) a below bounded (suc i) = linear_from-bounded c cs a (bounded 0) (λ j. bounded (suc j)) i

pub linear_from-multiple : (lowest : ℕ) (f : List ℕ) (a : ℕ) → lowest < MODULUS → IsBounded (coefficient_of f) → IsLinearMultiple (linear_from lowest f a) f a lowest
linear_from-multiple lowest [] a below bounded zero = sym (nothing_taken lowest a 0 below (inr refl))
linear_from-multiple lowest [] a below bounded (suc i) = sym (nothing_taken 0 a 0 modulus_positive (inr refl))
linear_from-multiple lowest (c ∷ cs) a below bounded zero = refl
linear_from-multiple lowest (c ∷ cs) a below bounded (suc i) = linear_from-multiple c cs a (bounded 0) (λ j. bounded (suc j)) i

pub length-linear_from : (lowest : ℕ) (f : List ℕ) (a : ℕ) → length (linear_from lowest f a) ≡ suc (length f)
length-linear_from lowest [] a = refl
length-linear_from lowest (c ∷ cs) a = ap suc (length-linear_from c cs a)

pub vanishing_of-bounded : (xs : List ℕ) → IsBounded (coefficient_of (vanishing_of xs))
vanishing_of-bounded [] zero = modulus_above_one
vanishing_of-bounded [] (suc i) = modulus_positive
vanishing_of-bounded (a ∷ rest) i = linear_from-bounded 0 (vanishing_of rest) a modulus_positive (vanishing_of-bounded rest) i

pub vanishing_of-multiple : (a : ℕ) (rest : List ℕ) → IsLinearMultiple (vanishing_of (a ∷ rest)) (vanishing_of rest) a 0
vanishing_of-multiple a rest = linear_from-multiple 0 (vanishing_of rest) a modulus_positive (vanishing_of-bounded rest)

pub length-vanishing_of : (xs : List ℕ) → length (vanishing_of xs) ≡ suc (length xs)
length-vanishing_of [] = refl
length-vanishing_of (a ∷ rest) = length-linear_from 0 (vanishing_of rest) a ∙ ap suc (length-vanishing_of rest)

pub vanishing_of-below : (xs : List ℕ) → HasDegreeBelow (vanishing_of xs) (suc (length xs))
vanishing_of-below xs i past = coefficient_of-past (vanishing_of xs) i (omega (arith, length-vanishing_of xs))

pub vanishing_of-top : (xs : List ℕ) → get_or (vanishing_of xs) (length xs) 0 ≡ 1
vanishing_of-top [] = refl
vanishing_of-top (a ∷ rest) =
    IsLinearMultiple-top (vanishing_of (a ∷ rest)) (vanishing_of rest) a 0 (length rest) (AreElements-from_bounded _ (vanishing_of-bounded rest)) (vanishing_of-multiple a rest) (vanishing_of-below rest)
    ∙ vanishing_of-top rest

pub vanishing_value : (xs : List ℕ) (z : ℕ) → value (vanishing_of xs) z ≡ difference_product xs z
vanishing_value [] z = value-one (1 ∷ []) z refl (vanishing_of-below [])
vanishing_value (a ∷ rest) z = linear_value (vanishing_of (a ∷ rest)) (vanishing_of rest) a z (vanishing_of-multiple a rest) ∙ ap (field_product (field_difference z a)) (vanishing_value rest z)

pub vanishing_of-root : (xs : List ℕ) (i : ℕ) → i < length xs → value (vanishing_of xs) (get_or xs i 0) ≡ 0
vanishing_of-root [] i within = absurd (omega arith)
vanishing_of-root (a ∷ rest) zero within = linear_root (vanishing_of (a ∷ rest)) (vanishing_of rest) a a (vanishing_of-multiple a rest) (inl refl)
vanishing_of-root (a ∷ rest) (suc i) within = linear_root (vanishing_of (a ∷ rest)) (vanishing_of rest) a (get_or rest i 0) (vanishing_of-multiple a rest) (inr (vanishing_of-root rest i (omega arith)))

drop-before : (xs : List ℕ) (i : ℕ) → i < length xs → drop i xs ≡ get_or xs i 0 ∷ drop (suc i) xs
drop-before [] i within = absurd (omega arith)
drop-before (x ∷ xs) zero within = refl
drop-before (x ∷ xs) (suc i) within = drop-before xs i (omega arith)

-- the product over one point more
pub vanishing_of-before : (xs f new : List ℕ) (i a : ℕ) → i < length xs → a ≡ get_or xs i 0 → SameCoefficients f (vanishing_of (drop (suc i) xs)) → IsLinearMultiple new f a 0 → SameCoefficients new (vanishing_of (drop i xs))
vanishing_of-before xs f new i a within point same is k =
    is k ∙ both k ∙ sym (vanishing_of-multiple a rest k) ∙ ap (λ b. get_or (vanishing_of (b ∷ rest)) k 0) point ∙ ap (λ ys. get_or (vanishing_of ys) k 0) (sym (drop-before xs i within))
  where
    rest : List ℕ
    rest = drop (suc i) xs

    both : (k : ℕ) → field_difference (get_or (0 ∷ f) k 0) (field_product a (get_or f k 0)) ≡ field_difference (get_or (0 ∷ vanishing_of rest) k 0) (field_product a (get_or (vanishing_of rest) k 0))
    both zero = ap (λ c. field_difference 0 (field_product a c)) (same 0)
    both (suc k) = ap (λ c. field_difference c (field_product a (get_or f (suc k) 0))) (same k) ∙ ap (λ c. field_difference (get_or (vanishing_of rest) k 0) (field_product a c)) (same (suc k))

-- division by (x - a): each coefficient is the value at a of what follows it
abbrev pub quotient_list : List ℕ → ℕ → List ℕ
quotient_list [] a = []
quotient_list (c ∷ cs) a = value cs a ∷ quotient_list cs a

quotient_list-bounded : (f : List ℕ) (a : ℕ) → IsBounded (coefficient_of (quotient_list f a))
quotient_list-bounded [] a i = modulus_positive
quotient_list-bounded (c ∷ cs) a zero = value-below cs a
quotient_list-bounded (c ∷ cs) a (suc i) = quotient_list-bounded cs a i

quotient_list-multiple : (f : List ℕ) (a : ℕ) → IsBounded (coefficient_of f) → IsLinearMultiple f (quotient_list f a) a (value f a)
quotient_list-multiple [] a bounded zero = sym (nothing_taken 0 a 0 modulus_positive (inr refl))
quotient_list-multiple [] a bounded (suc i) = sym (nothing_taken 0 a 0 modulus_positive (inr refl))
quotient_list-multiple (c ∷ cs) a bounded zero = taken_back c (field_product a (value cs a)) (bounded 0)
quotient_list-multiple (c ∷ cs) a bounded (suc i) = quotient_list-multiple cs a (λ j. bounded (suc j)) i

quotient_list-below : (f : List ℕ) (a n : ℕ) → HasDegreeBelow f (suc n) → HasDegreeBelow (quotient_list f a) n
quotient_list-below [] a n below i past = refl
quotient_list-below (c ∷ cs) a zero below zero past = value-zero cs a (λ j. below (suc j) (omega arith))
quotient_list-below (c ∷ cs) a (suc n) below zero past = absurd (omega arith)
quotient_list-below (c ∷ cs) a zero below (suc i) past = quotient_list-below cs a 0 (λ j more. below (suc j) (omega arith)) i (omega arith)
quotient_list-below (c ∷ cs) a (suc n) below (suc i) past = quotient_list-below cs a n (λ j more. below (suc j) (omega arith)) i (omega arith)

-- what vanishes at distinct points is a multiple of their product
pub vanishing_multiple : (xs f : List ℕ) → AreElements f → IsBounded (coefficient_of xs) → AreDistinct xs → ((i : ℕ) → i < length xs → value f (get_or xs i 0) ≡ 0) → IsVanishingMultiple f xs
vanishing_multiple [] f elements xs_bounded distinct roots = record {
  quotient = f;
  elements = elements;
  product = λ z. sym (one_product (value f z) (value-below f z));
  below = λ m below i past. below i (omega arith);
}
vanishing_multiple (a ∷ rest) f elements xs_bounded distinct roots =
    let q : List ℕ = quotient_list f a in
    let q_elements : AreElements q = AreElements-from_bounded q (quotient_list-bounded f a) in
    let is : IsLinearMultiple f q a 0 = subst (IsLinearMultiple f q a) (roots 0 (omega arith)) (quotient_list-multiple f a (AreElements-bounded f elements)) in
    let later : IsVanishingMultiple q rest = vanishing_multiple rest q q_elements (λ i. xs_bounded (suc i)) (λ i j less within. distinct (suc i) (suc j) (omega arith) (omega arith))
    (λ i within. other_factor (field_difference (get_or rest i 0) a) (value q (get_or rest i 0)) (difference_below (get_or rest i 0) a) (value-below q (get_or rest i 0))
    (λ none. distinct 0 (suc i) (omega arith) (omega arith) (sym (difference_is_zero (get_or rest i 0) a (xs_bounded (suc i)) (xs_bounded 0) none)))
    (sym (linear_value f q a (get_or rest i 0) is) ∙ roots (suc i) (omega arith))) in
    record {
      quotient = later.quotient;
      elements = later.elements;
      product = λ z. linear_value f q a z is ∙ ap (field_product (field_difference z a)) (later.product z) ∙ sym (product_associates (field_difference z a) (difference_product rest z) (value later.quotient z));
      below = λ m below. later.below m (quotient_list-below f a (length rest + m) (λ i past. below i (omega arith)));
    }
