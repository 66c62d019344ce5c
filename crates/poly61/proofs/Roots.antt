-- A polynomial has no more roots than its degree.
use Rattle.std.proofs.Common.{ℕ, zero, suc, ◌+◌, ◌<◌, ◌≤◌, ◌≡◌, ◌∙◌, sym, ap, refl, arith, true, false, cond, eqb, subst, inl, inr, ◌⊎◌}
use mathlib.Core.Logic.{◌≢◌}
use Rattle.std.proofs.lemmas.Bool.{eqb-true, eq-eqb, cases_lt}
use Rattle.std.proofs.lemmas.Bool.Decides.{eqb_tells}
use Rattle.field61.specs.declared.TheConstants.{MODULUS}
use Rattle.field61.specs.Field.{field_sum, field_product, field_negative, field_difference}
use Rattle.field61.proofs.FieldLaws.{sum_below, difference_below, sum_difference, difference_is_zero}
use Rattle.poly61.proofs.Elements.{minus_self, minus_is_zero, other_factor, zero_sum_product}
use Rattle.poly61.proofs.Places.{tail, value_to, value_to-below, value_to-plus, quotient_of, quotient_of-below, factor, head_zero, zero_from_quotient, IsBounded}
use Rattle.poly61.specs.Counts.{count_to}
use Rattle.poly61.proofs.Counts.{count_to-grows}

-- the first n numbers are distinct
abbrev pub AreApart : ℕ → (ℕ → ℕ) → Type 0
AreApart n a = (i j : ℕ) → i < j → j < n → a i ≡ a j → ⊥

-- another root of c is a root of the quotient
pub other_root : (m : ℕ) (c : ℕ → ℕ) (a b : ℕ) → b < MODULUS → (a ≡ b → ⊥) → a < MODULUS → value_to (suc m) c a ≡ 0 → value_to (suc m) c b ≡ 0 → value_to m (quotient_of m (tail c) a) b ≡ 0
other_root m c a b b_below apart a_below a_root b_root =
    let d : ℕ = field_difference b a in
    let quotient : ℕ = value_to m (quotient_of m (tail c) a) b in
    let nonzero : d ≡ 0 → ⊥ = λ none. apart (sym (difference_is_zero b a b_below a_below none)) in
    let factored : value_to (suc m) c b ≡ field_sum (value_to (suc m) c a) (field_product d quotient) =
    subst (λ z. value_to (suc m) c z ≡ field_sum (value_to (suc m) c a) (field_product d (value_to m (quotient_of m (tail c) a) z))) (sum_difference b a b_below) (factor m c a d) in
    let none : field_product d quotient ≡ 0 = sym (zero_sum_product d quotient) ∙ ap (λ z. field_sum z (field_product d quotient)) (sym a_root) ∙ sym factored ∙ b_root in
    other_factor d quotient (difference_below b a) (value_to-below m _ b) nonzero none

-- at how many of the first k points the value of the first n places is 0
abbrev pub root_count : ℕ → ℕ → (ℕ → ℕ) → (ℕ → ℕ) → ℕ
root_count k n c a = count_to k (λ i. eqb (value_to n c (a i)) 0)

root_step : (k n : ℕ) (a c : ℕ → ℕ) → AreApart (suc k) a → ((i : ℕ) → a i < MODULUS) → ((i : ℕ) → c i < MODULUS) → suc n ≤ root_count (suc k) (suc n) c a →
    (n ≤ root_count k n (quotient_of n (tail c) (a 0)) (tail a) → (i : ℕ) → i < n → quotient_of n (tail c) (a 0) i ≡ 0) → (suc n ≤ root_count k (suc n) c (tail a) → (i : ℕ) → i < suc n → c i ≡ 0) → (i : ℕ) → i < suc n → c i ≡ 0
root_step k n a c apart a_below c_below h here past = by_test (eqb_tells (value_to (suc n) c (a 0)) 0)
  where
    skip : eqb (value_to (suc n) c (a 0)) 0 ≡ false → suc n ≤ root_count k (suc n) c (tail a)
    skip e = let l : suc n ≤ 0 + root_count k (suc n) c (tail a) = subst (λ b. suc n ≤ cond b 1 0 + root_count k (suc n) c (tail a)) e h in omega arith

    left : eqb (value_to (suc n) c (a 0)) 0 ≡ true → n ≤ root_count k (suc n) c (tail a)
    left e = let l : suc n ≤ 1 + root_count k (suc n) c (tail a) = subst (λ b. suc n ≤ cond b 1 0 + root_count k (suc n) c (tail a)) e h in omega arith

    down : value_to (suc n) c (a 0) ≡ 0 → n ≤ root_count k (suc n) c (tail a) → n ≤ root_count k n (quotient_of n (tail c) (a 0)) (tail a)
    down r l = let m : root_count k (suc n) c (tail a) ≤ root_count k n (quotient_of n (tail c) (a 0)) (tail a) =
        count_to-grows k _ _ (λ i p e. eq-eqb _ 0 (other_root n c (a 0) (tail a i) (a_below (suc i)) (apart 0 (suc i) (omega arith) (omega arith)) (a_below 0) r (eqb-true _ 0 e))) in omega arith

    both : value_to (suc n) c (a 0) ≡ 0 → ((i : ℕ) → i < n → tail c i ≡ 0) → (i : ℕ) → i < suc n → c i ≡ 0
    both r t zero l = head_zero n c (a 0) (c_below 0) r t
    both r t (suc i) l = t i (omega arith)

    by_test : ((eqb (value_to (suc n) c (a 0)) 0 ≡ true) × (value_to (suc n) c (a 0) ≡ 0)) ⊎ ((eqb (value_to (suc n) c (a 0)) 0 ≡ false) × (value_to (suc n) c (a 0) ≢ 0)) → (i : ℕ) → i < suc n → c i ≡ 0
    by_test (inl w) = both w.1 (zero_from_quotient n (tail c) (a 0) (λ i. c_below (suc i)) (here (down w.1 (left w.0))))
    by_test (inr w) = past (skip w.0)

-- as many roots as places: all coefficients are zero
pub root_bound : (k n : ℕ) (a c : ℕ → ℕ) → AreApart k a → ((i : ℕ) → a i < MODULUS) → ((i : ℕ) → c i < MODULUS) → n ≤ root_count k n c a → (i : ℕ) → i < n → c i ≡ 0
root_bound k zero a c apart a_below c_below h = λ i l. absurd (omega arith)
root_bound zero (suc n) a c apart a_below c_below h = absurd (omega arith)
root_bound (suc k) (suc n) a c apart a_below c_below h =
    root_step k n a c apart a_below c_below h
    (root_bound k n (tail a) (quotient_of n (tail c) (a 0)) (λ i j p q. apart (suc i) (suc j) (omega arith) (omega arith)) (λ i. a_below (suc i)) (quotient_of-below n (tail c) (a 0)))
    (root_bound k (suc n) (tail a) c (λ i j p q. apart (suc i) (suc j) (omega arith) (omega arith)) (λ i. a_below (suc i)) c_below)

-- two polynomials of n places that agree at n points are equal
pub same_from_agreement : (k n : ℕ) (a c d : ℕ → ℕ) → AreApart k a → ((i : ℕ) → a i < MODULUS) → ((i : ℕ) → c i < MODULUS) → ((i : ℕ) → d i < MODULUS) →
    n ≤ count_to k (λ i. eqb (value_to n c (a i)) (value_to n d (a i))) → (i : ℕ) → i < n → c i ≡ d i
same_from_agreement k n a c d apart a_below c_below d_below h i l =
    let e : ℕ → ℕ = λ j. field_sum (c j) (field_product (field_negative 1) (d j)) in
    let at : (x : ℕ) → value_to n c x ≡ value_to n d x → value_to n e x ≡ 0 = λ x q. value_to-plus n e c d (field_negative 1) x (λ j _. refl) ∙ ap (λ z. field_sum z (field_product (field_negative 1) (value_to n d x))) q ∙ minus_self (value_to n d x) (value_to-below n d x) in
    let many : n ≤ root_count k n e a = (let m : count_to k (λ i. eqb (value_to n c (a i)) (value_to n d (a i))) ≤ root_count k n e a = count_to-grows k _ _ (λ j _ t. eq-eqb _ 0 (at (a j) (eqb-true _ _ t))) in omega arith) in
    minus_is_zero (c i) (d i) (c_below i) (d_below i) (root_bound k n a e apart a_below (λ j. sum_below (c j) _) many i l)

-- if the coefficient at place d is not 0, the first d + 1 places have at most d roots
pub few_roots : (n d : ℕ) (a c : ℕ → ℕ) → AreApart n a → IsBounded a → IsBounded c → (c d ≡ 0 → ⊥) → root_count n (suc d) c a ≤ d
few_roots n d a c apart a_below c_below top = by (cases_lt d (root_count n (suc d) c a))
  where
    by : (d < root_count n (suc d) c a) ⊎ (root_count n (suc d) c a ≤ d) → root_count n (suc d) c a ≤ d
    by (inl more) = absurd (top (root_bound n (suc d) a c apart a_below c_below (omega arith) d (omega arith)))
    by (inr few) = few
