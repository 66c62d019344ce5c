-- What the operations on coefficients do to values and degrees.
use Rattle.std.proofs.Common.{ℕ, zero, suc, ◌+◌, ◌-◌, ◌<◌, ◌≤◌, ◌≡◌, ◌∙◌, sym, ap, refl, arith, subst, inl, inr, ◌⊎◌, List, ◌∷◌, length, get_or, drop}
use Rattle.std.proofs.lemmas.Bool.{cases_lt}
use Rattle.std.proofs.lemmas.List.{get_or-drop}
use Rattle.field61.specs.declared.TheConstants.{MODULUS}
use Rattle.field61.specs.Field.{field_sum, field_product, field_negative, field_difference, field_power, AreElements}
use Rattle.field61.proofs.FieldLaws.{power_zero, modulus_positive, modulus_above_one, sum_associates, sum_commutes, sum_zero, sum_cancels, product_zero, zero_product, product_one, one_product, product_commutes, product_associates, product_distributes_right, negative_product, difference_is_sum, sum_difference, difference_self, difference_is_zero, difference_below}
use Rattle.poly61.specs.Poly.{value, IsZero, HasDegree, HasDegreeBelow, IsLinearMultiple, TakesOff}
use Rattle.poly61.proofs.Elements.{difference-product, taken_back, nothing_taken, other_factor, zero_sum_product}
use Rattle.poly61.proofs.Places.{IsZeroFrom, value_to, value_to-same, value_to-plus, shifted-at, shifted-low, plus_multiple, value_to-plus_multiple}
use Rattle.poly61.proofs.Lists.{coefficient_of, coefficient_of-past, AreElements-bounded, value-room, value-places, value-below}

-- old - c * x^shift * other, place by place
pub TakesOff-place : (old new : List ℕ) (c shift : ℕ) (other : List ℕ) → AreElements old → TakesOff old new c shift other → (i : ℕ) → coefficient_of new i ≡ plus_multiple (field_negative c) shift (coefficient_of other) (coefficient_of old) i
TakesOff-place old new c shift other elements taken i = by (cases_lt i shift)
  where
    by : (i < shift) ⊎ (shift ≤ i) → coefficient_of new i ≡ plus_multiple (field_negative c) shift (coefficient_of other) (coefficient_of old) i
    by (inl low) = taken.low i low
        ∙ sym (ap (λ z. field_sum (coefficient_of old i) (field_product (field_negative c) z)) (shifted-low shift (coefficient_of other) i low)
        ∙ ap (field_sum (coefficient_of old i)) (product_zero (field_negative c)) ∙ sum_zero (coefficient_of old i) (AreElements-bounded old elements i))
    by (inr high) = let k : ℕ = i - shift in let place : i ≡ shift + k = omega arith in
        ap (coefficient_of new) place ∙ taken.rest k ∙ difference-product (coefficient_of old (shift + k)) c (coefficient_of other k)
        ∙ ap (λ z. field_sum (coefficient_of old (shift + k)) (field_product (field_negative c) z)) (sym (shifted-at shift (coefficient_of other) k))
        ∙ ap (plus_multiple (field_negative c) shift (coefficient_of other) (coefficient_of old)) (sym place)

pub TakesOff-value : (old new : List ℕ) (c shift : ℕ) (other : List ℕ) (x : ℕ) → AreElements old → TakesOff old new c shift other → value new x ≡ field_sum (value old x) (field_product (field_negative c) (field_product (field_power x shift) (value other x)))
TakesOff-value old new c shift other x elements taken =
    let m : ℕ = length old + length new + length other in
    let n : ℕ = shift + m in
    let past : IsZeroFrom (coefficient_of other) m = λ i l. coefficient_of-past other i (omega arith) in
    value-room n new x (omega arith) ∙ value_to-same n (coefficient_of new) (plus_multiple (field_negative c) shift (coefficient_of other) (coefficient_of old)) x (λ i _. TakesOff-place old new c shift other elements taken i)
    ∙ value_to-plus_multiple n (field_negative c) shift m (coefficient_of other) (coefficient_of old) x refl past
    ∙ sym (ap (λ z. field_sum z (field_product (field_negative c) (field_product (field_power x shift) (value other x)))) (value-room n old x (omega arith))
    ∙ ap (λ z. field_sum (value_to n (coefficient_of old) x) (field_product (field_negative c) (field_product (field_power x shift) z))) (value-room n other x (omega arith)))

-- where the other vanishes, the value doesn't change
pub TakesOff-keeps : (old new : List ℕ) (c shift : ℕ) (other : List ℕ) (x : ℕ) → AreElements old → TakesOff old new c shift other → value other x ≡ 0 → value new x ≡ value old x
TakesOff-keeps old new c shift other x elements taken none =
    TakesOff-value old new c shift other x elements taken
    ∙ ap (λ y. field_sum (value old x) (field_product (field_negative c) (field_product (field_power x shift) y))) none
    ∙ ap (λ y. field_sum (value old x) (field_product (field_negative c) y)) (product_zero (field_power x shift))
    ∙ ap (field_sum (value old x)) (product_zero (field_negative c)) ∙ sum_zero (value old x) (value-below old x)

-- a place that is 0 in both is 0
pub TakesOff-zero : (old new : List ℕ) (c shift : ℕ) (other : List ℕ) (i : ℕ) → AreElements old → TakesOff old new c shift other → get_or old i 0 ≡ 0 → ((k : ℕ) → i ≡ shift + k → get_or other k 0 ≡ 0) → get_or new i 0 ≡ 0
TakesOff-zero old new c shift other i elements taken old_none other_none = by (cases_lt i shift)
  where
    by : (i < shift) ⊎ (shift ≤ i) → get_or new i 0 ≡ 0
    by (inl low) = taken.low i low ∙ old_none
    by (inr high) = let k : ℕ = i - shift in let place : i ≡ shift + k = omega arith in
        ap (coefficient_of new) place ∙ taken.rest k
        ∙ nothing_taken (get_or old (shift + k) 0) c (get_or other k 0) (AreElements-bounded old elements (shift + k)) (inr (other_none k place))
        ∙ ap (coefficient_of old) (sym place) ∙ old_none

pub TakesOff-below : (old new : List ℕ) (c shift : ℕ) (other : List ℕ) (n m : ℕ) → AreElements old → TakesOff old new c shift other → HasDegreeBelow old n → HasDegreeBelow other m → shift + m ≤ n → HasDegreeBelow new n
TakesOff-below old new c shift other n m elements taken old_below other_below within i past =
    TakesOff-zero old new c shift other i elements taken (old_below i past) (λ k place. other_below k (omega arith))

-- f · (x - a) + rest
pub IsLinearMultiple-value : (product f : List ℕ) (a rest x : ℕ) → IsLinearMultiple product f a rest → value product x ≡ field_sum rest (field_product (field_difference x a) (value f x))
IsLinearMultiple-value product f a rest x is =
    let n : ℕ = suc (length f + length product) in
    value-room n product x (omega arith)
    ∙ value_to-plus n (coefficient_of product) (coefficient_of (rest ∷ f)) (coefficient_of f) (field_negative a) x (λ i _. is i ∙ difference-product (get_or (rest ∷ f) i 0) a (get_or f i 0))
    ∙ sym (ap (λ z. field_sum z (field_product (field_negative a) (value f x))) (value-room n (rest ∷ f) x (omega arith)) ∙ ap (λ z. field_sum (value_to n (coefficient_of (rest ∷ f)) x) (field_product (field_negative a) z)) (value-room n f x (omega arith)))
    ∙ sum_associates rest (field_product x (value f x)) (field_product (field_negative a) (value f x))
    ∙ ap (field_sum rest) (sym (product_distributes_right x (field_negative a) (value f x)) ∙ ap (λ z. field_product z (value f x)) (sym (difference_is_sum x a)))

pub linear_value : (product f : List ℕ) (a x : ℕ) → IsLinearMultiple product f a 0 → value product x ≡ field_product (field_difference x a) (value f x)
linear_value product f a x is = IsLinearMultiple-value product f a 0 x is ∙ zero_sum_product (field_difference x a) (value f x)

pub IsLinearMultiple-below : (product f : List ℕ) (a rest n : ℕ) → IsLinearMultiple product f a rest → HasDegreeBelow f n → HasDegreeBelow product (n + 1)
IsLinearMultiple-below product f a rest n is below zero past = absurd (omega arith)
IsLinearMultiple-below product f a rest n is below (suc i) past =
    is (suc i) ∙ nothing_taken (get_or f i 0) a (get_or f (suc i) 0) (subst (λ y. y < MODULUS) (sym (below i (omega arith))) modulus_positive) (inr (below (suc i) (omega arith))) ∙ below i (omega arith)

-- the top of the product is the top
pub IsLinearMultiple-top : (product f : List ℕ) (a rest n : ℕ) → AreElements f → IsLinearMultiple product f a rest → HasDegreeBelow f (suc n) → get_or product (suc n) 0 ≡ get_or f n 0
IsLinearMultiple-top product f a rest n elements is below = is (suc n) ∙ nothing_taken (get_or f n 0) a (get_or f (suc n) 0) (AreElements-bounded f elements n) (inr (below (suc n) (omega arith)))

-- the product with (x - a) vanishes at a, and where f does
pub linear_root : (product f : List ℕ) (a x : ℕ) → IsLinearMultiple product f a 0 → (x ≡ a) ⊎ (value f x ≡ 0) → value product x ≡ 0
linear_root product f a x is (inl same) = linear_value product f a x is ∙ ap (λ z. field_product (field_difference z a) (value f x)) same ∙ ap (λ z. field_product z (value f x)) (difference_self a) ∙ zero_product (value f x)
linear_root product f a x is (inr root) = linear_value product f a x is ∙ ap (field_product (field_difference x a)) root ∙ product_zero (field_difference x a)

-- and nowhere else
pub linear_nonzero : (product f : List ℕ) (a x : ℕ) → IsLinearMultiple product f a 0 → a < MODULUS → x < MODULUS → (x ≡ a → ⊥) → (value f x ≡ 0 → ⊥) → value product x ≡ 0 → ⊥
linear_nonzero product f a x is a_below x_below apart nonzero root =
    nonzero (other_factor (field_difference x a) (value f x) (difference_below x a) (value-below f x) (λ none. apart (difference_is_zero x a x_below a_below none)) (sym (linear_value product f a x is) ∙ root))

-- the polynomial 1
pub value-one : (f : List ℕ) (x : ℕ) → get_or f 0 0 ≡ 1 → HasDegreeBelow f 1 → value f x ≡ 1
value-one f x one below = value-places 1 f x below ∙ ap (field_sum (get_or f 0 0)) (product_zero x) ∙ ap (λ y. field_sum y 0) one ∙ sum_zero 1 modulus_above_one

pub value-zero : (f : List ℕ) (x : ℕ) → IsZero f → value f x ≡ 0
value-zero f x none = value-places 0 f x (λ i _. none i)

-- Newton's step: with c = (v - y) / w, v - c * w is y
newton : (v y w inverse : ℕ) → v < MODULUS → y < MODULUS → w < MODULUS → field_product w inverse ≡ 1 → field_sum v (field_product (field_negative (field_product (field_difference v y) inverse)) w) ≡ y
newton v y w inverse v_below y_below w_below one =
    let d : ℕ = field_difference v y in
    let whole : field_product (field_product d inverse) w ≡ d =
    product_associates d inverse w ∙ ap (field_product d) (product_commutes inverse w ∙ one) ∙ product_one d (difference_below v y) in
    let left : field_sum d y ≡ v = sum_commutes d y ∙ sum_difference v y v_below in
    ap (field_sum v) (negative_product (field_product d inverse) w ∙ ap field_negative whole) ∙ sym (difference_is_sum v d)
    ∙ sum_cancels d (field_difference v d) y (difference_below v d) y_below (sum_difference v d v_below ∙ sym left)

-- the step of interpolation, at its own point
pub newton_passes : (old new work : List ℕ) (c x y inverse : ℕ) → AreElements old → y < MODULUS → c ≡ field_product (field_difference (value old x) y) inverse → field_product (value work x) inverse ≡ 1 → TakesOff old new c 0 work → value new x ≡ y
newton_passes old new work c x y inverse elements y_below is one taken =
    TakesOff-value old new c 0 work x elements taken
    ∙ ap (λ z. field_sum (value old x) (field_product (field_negative c) z)) (ap (λ p. field_product p (value work x)) (power_zero x) ∙ one_product (value work x) (value-below work x))
    ∙ ap (λ z. field_sum (value old x) (field_product (field_negative z) (value work x))) is
    ∙ newton (value old x) y (value work x) inverse (value-below old x) y_below (value-below work x) one

-- a quotient by (x - a), read as a product
back : (o a n q : ℕ) → o < MODULUS → q ≡ field_sum o (field_product a n) → o ≡ field_difference q (field_product a n)
back o a n q o_below is = taken_back o (field_product a n) o_below ∙ ap (λ y. field_difference y (field_product a n)) (sym is)

pub IsLinearMultiple-quotient : (f quotient : List ℕ) (a rest : ℕ) → AreElements f → rest ≡ field_sum (get_or f 0 0) (field_product a (get_or quotient 0 0)) →
    ((i : ℕ) → get_or quotient i 0 ≡ field_sum (get_or f (i + 1) 0) (field_product a (get_or quotient (i + 1) 0))) → IsLinearMultiple f quotient a rest
IsLinearMultiple-quotient f quotient a rest elements first next zero = back (get_or f 0 0) a (get_or quotient 0 0) rest (AreElements-bounded f elements 0) first
IsLinearMultiple-quotient f quotient a rest elements first next (suc i) =
    back (get_or f (suc i) 0) a (get_or quotient (suc i) 0) (get_or quotient i 0) (AreElements-bounded f elements (suc i))
    (next i ∙ ap (λ j. field_sum (get_or f j 0) (field_product a (get_or quotient j 0))) {x = i + 1} {y = suc i} (omega arith))

-- past the places of the product
pub linear_past : (a : ℕ) (f : List ℕ) (n k : ℕ) → HasDegreeBelow f (n - 1) → n ≤ k → 0 ≡ field_difference (get_or (0 ∷ f) k 0) (field_product a (get_or f k 0))
linear_past a f n zero below past = sym (nothing_taken 0 a (get_or f 0 0) modulus_positive (inr (below 0 (omega arith))))
linear_past a f n (suc k) below past =
    sym (nothing_taken (get_or f k 0) a (get_or f (suc k) 0) (subst (λ y. y < MODULUS) (sym (below k (omega arith))) modulus_positive) (inr (below (suc k) (omega arith))) ∙ below k (omega arith))

-- past the places of the quotient
pub quotient_past : (a x y : ℕ) → x ≡ 0 → y ≡ 0 → 0 ≡ field_sum x (field_product a y)
quotient_past a x y x_none y_none = sym (rw (x_none, y_none, product_zero) (sum_zero 0 modulus_positive))

-- nothing is left of the places that are 0
pub value-drop_past : (f : List ℕ) (n x : ℕ) → HasDegreeBelow f n → value (drop n f) x ≡ 0
value-drop_past f n x below = value-zero (drop n f) x (λ i. get_or-drop n f i 0 ∙ below (n + i) (omega arith))

-- a polynomial has one degree
pub HasDegree-one : (f : List ℕ) (d e : ℕ) → HasDegree f d → HasDegree f e → d ≡ e
HasDegree-one f d e first second = by (cases_lt d e) (cases_lt e d)
  where
    by : (d < e) ⊎ (e ≤ d) → (e < d) ⊎ (d ≤ e) → d ≡ e
    by (inl less) _ = absurd (second.top (first.above e (omega arith)))
    by (inr _) (inl less) = absurd (first.top (second.above d (omega arith)))
    by (inr more) (inr most) = omega arith
