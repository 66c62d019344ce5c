-- The laws of polynomials, as the functions of the module `laws` state them.
use Rattle.std.proofs.Common.{ℕ, suc, ◌%◌, ◌<◌, ◌≤◌, ◌≡◌, ◌∙◌, sym, arith, inl, inr, List, length, get_or, All}
use Rattle.std.proofs.Math.Nat.{mod-lt, mod-eq_of_lt}
use Rattle.std.proofs.lemmas.Bool.{cases_lt, eq-eqb}
use Rattle.std.proofs.lemmas.List.Elements.{All-get_or, All-from_get_or}
use Rattle.field61.specs.declared.TheConstants.{MODULUS}
use Rattle.field61.specs.Field.{field_product, field_power, AreElements}
use Rattle.field61.proofs.FieldLaws.{modulus_positive}
use Rattle.field61.specs.Sums.{field_total}
use Rattle.poly61.specs.Poly.{value, HasDegree, HasDegreeBelow, SameCoefficients, AreDistinct}
use Rattle.poly61.specs.Vanishing.{vanishing_of, difference_product, IsVanishingMultiple}
use Rattle.poly61.proofs.Elements.{one_is_not_zero}
use Rattle.poly61.proofs.Places.{value_to-sum, IsBounded}
use Rattle.poly61.proofs.Counts.{count_to-all}
use Rattle.poly61.proofs.Roots.{AreApart, root_count, few_roots, same_from_agreement}
use Rattle.poly61.proofs.Lists.{coefficient_of, AreElements-bounded, value-value_to, value-places}
use Rattle.poly61.proofs.Products.{vanishing_of-below, vanishing_of-top, vanishing_of-root, vanishing_multiple}

pub value_is_sum : (f : List ℕ) (x : ℕ) → AreElements f → value f x ≡ field_total (length f) (λ i. field_product (get_or f i 0) (field_power x i))
value_is_sum f x elements = value-value_to f x ∙ value_to-sum (length f) (coefficient_of f) x (AreElements-bounded f elements)

pub roots_are_few : (f xs : List ℕ) (d : ℕ) → AreElements f → AreElements xs → AreDistinct xs → HasDegree f d → All (λ x. value f x ≡ 0) xs → length xs ≤ d
roots_are_few f xs d f_elements xs_elements distinct degree roots =
    let all : length xs ≤ root_count (length xs) (suc d) (coefficient_of f) (coefficient_of xs) =
    count_to-all (length xs) _ (λ i within. eq-eqb _ 0 (sym (value-places (suc d) f (get_or xs i 0) (λ j past. degree.above j (omega arith))) ∙ All-get_or (λ x. value f x ≡ 0) xs i 0 within roots)) in
    omega (arith, all, few_roots (length xs) d (coefficient_of xs) (coefficient_of f) distinct (AreElements-bounded xs xs_elements) (AreElements-bounded f f_elements) degree.top)

-- two polynomials of degree below n that agree at n distinct points are equal
pub same_below : (f g : List ℕ) (n : ℕ) (a : ℕ → ℕ) → AreElements f → AreElements g → AreApart n a → IsBounded a → HasDegreeBelow f n → HasDegreeBelow g n → ((i : ℕ) → i < n → value f (a i) ≡ value g (a i)) → SameCoefficients f g
same_below f g n a f_elements g_elements apart a_below f_below g_below agree i = elim (cases_lt i n) [
  | inl within ↦ same_from_agreement n n a (coefficient_of f) (coefficient_of g) apart a_below (AreElements-bounded f f_elements) (AreElements-bounded g g_elements)
      (count_to-all n _ (λ j less. eq-eqb _ _ (sym (value-places n f (a j) f_below) ∙ agree j less ∙ value-places n g (a j) g_below))) i within
  | inr past ↦ f_below i past ∙ sym (g_below i past)
]

pub agreeing_are_equal : (f g xs : List ℕ) → AreElements f → AreElements g → AreElements xs → AreDistinct xs → HasDegreeBelow f (length xs) → HasDegreeBelow g (length xs) → All (λ x. value f x ≡ value g x) xs → SameCoefficients f g
agreeing_are_equal f g xs f_elements g_elements xs_elements distinct f_below g_below agree =
    same_below f g (length xs) (coefficient_of xs) f_elements g_elements distinct (AreElements-bounded xs xs_elements) f_below g_below (λ i within. All-get_or (λ x. value f x ≡ value g x) xs i 0 within agree)

-- the first n numbers are n points
determined : (f g : List ℕ) (n : ℕ) → n ≤ MODULUS → AreElements f → AreElements g → HasDegreeBelow f n → HasDegreeBelow g n → ((x : ℕ) → x < MODULUS → value f x ≡ value g x) → SameCoefficients f g
determined f g n enough f_elements g_elements f_below g_below agree =
    same_below f g n (λ i. i % MODULUS) f_elements g_elements
    (λ i j less within same. let i_same : i % MODULUS ≡ i = mod-eq_of_lt (omega arith) in let j_same : j % MODULUS ≡ j = mod-eq_of_lt (omega arith) in absurd (omega (arith, same, i_same, j_same)))
    (λ i. mod-lt i modulus_positive) f_below g_below (λ i _. agree (i % MODULUS) (mod-lt i modulus_positive))

pub values_determine : (f g : List ℕ) → AreElements f → AreElements g → HasDegreeBelow f MODULUS → HasDegreeBelow g MODULUS → ((x : ℕ) → x < MODULUS → value f x ≡ value g x) → SameCoefficients f g
values_determine f g = determined f g MODULUS (omega arith)

pub vanishing_degree : (xs : List ℕ) → HasDegree (vanishing_of xs) (length xs) × (get_or (vanishing_of xs) (length xs) 0 ≡ 1)
vanishing_degree xs = (record { top = λ none. one_is_not_zero _ (vanishing_of-top xs) none; above = λ i past. vanishing_of-below xs i (omega arith) }, vanishing_of-top xs)

pub vanishing_vanishes : (xs : List ℕ) → All (λ x. value (vanishing_of xs) x ≡ 0) xs
vanishing_vanishes xs = All-from_get_or (λ x. value (vanishing_of xs) x ≡ 0) xs 0 (vanishing_of-root xs)

pub vanishing_divides : (f xs : List ℕ) → AreElements f → AreElements xs → AreDistinct xs → All (λ x. value f x ≡ 0) xs → IsVanishingMultiple f xs
vanishing_divides f xs f_elements xs_elements distinct roots =
    vanishing_multiple xs f f_elements (AreElements-bounded xs xs_elements) distinct (λ i within. All-get_or (λ x. value f x ≡ 0) xs i 0 within roots)
