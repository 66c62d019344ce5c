-- Products by columns, values by blocks.
use Rattle.std.proofs.Common.{ℕ, zero, suc, ◌+◌, ◌-◌, ◌<◌, ◌≤◌, ◌≡◌, ◌⊎◌, ◌∙◌, sym, ap, refl, arith, inl, inr, List, length, get_or}
use Rattle.std.proofs.lemmas.Bool.{cases_lt}
use Rattle.field61.specs.Field.{field_sum, field_product, field_power, AreElements}
use Rattle.field61.specs.Sums.{field_total}
use Rattle.field61.proofs.FieldLaws.{ring, power_zero, sum_zero, zero_sum, product_below, product_zero, zero_product, one_product, sum_commutes}
use Rattle.field61.proofs.Totals.{field_total-below, field_total-same, field_total-split}
use Rattle.poly61.specs.Poly.{value, HasDegreeBelow}
use Rattle.poly61.specs.Blocks.{IsBlend, AddsProduct, product_at}
use Rattle.poly61.proofs.Elements.{zero_sum_zero, power-suc}
use Rattle.poly61.proofs.Places.{IsZeroFrom, IsBounded, value_to, value_to-below, value_to-same, value_to-plus, value_to-enough, value_to-sum, tail, raised, product_of, product_of-below, product_of-high, value_to-product, shifted, shifted-at, shifted-low}
use Rattle.poly61.proofs.Lists.{coefficient_of, AreElements-bounded, value-room, value-places, value-below}
use Rattle.poly61.proofs.Values.{value-zero}

pub field_total-zero : (n : ℕ) (t : ℕ → ℕ) → ((i : ℕ) → i < n → t i ≡ 0) → field_total n t ≡ 0
field_total-zero zero t e = refl
field_total-zero (suc n) t e = rw (e 0 (omega arith), field_total-zero n (λ i. t (suc i)) (λ i h. e (suc i) (omega arith))) zero_sum_zero

-- terms that are 0 don't count
pub field_total-trim : (n low count : ℕ) (t : ℕ → ℕ) → low + count ≤ n → ((i : ℕ) → i < low → t i ≡ 0) → ((i : ℕ) → low + count ≤ i → i < n → t i ≡ 0) → field_total n t ≡ field_total count (λ j. t (low + j))
field_total-trim n low count t within below above =
    let rest : ℕ = n - (low + count) in
    let u : ℕ → ℕ = λ j. t (low + j) in
    ap (λ k. field_total k t) {x = n} {y = low + (count + rest)} (omega arith)
    ∙ field_total-split low (count + rest) t
    ∙ ap (λ s. field_sum s (field_total (count + rest) u)) (field_total-zero low t below)
    ∙ zero_sum _ (field_total-below (count + rest) u)
    ∙ field_total-split count rest u
    ∙ ap (field_sum (field_total count u)) (field_total-zero rest (λ j. u (count + j)) (λ j h. above (low + (count + j)) (omega arith) (omega arith)))
    ∙ sum_zero _ (field_total-below count u)

-- the product as a sum over the places of the first factor
pub product_of-total : (m : ℕ) (c d : ℕ → ℕ) (t : ℕ) → product_of m c d t ≡ field_total m (λ i. field_product (c i) (shifted i d t))
product_of-total zero c d t = refl
product_of-total (suc m) c d zero =
    let none : field_total m (λ i. field_product (c (suc i)) (shifted (suc i) d 0)) ≡ 0 = field_total-zero m _ (λ i _. product_zero (c (suc i))) in
    ap (field_sum (raised (product_of m (tail c) d) 0)) {x = field_product (c 0) (d 0)} refl ∙ zero_sum _ (product_below (c 0) (d 0)) ∙ sym (ap (field_sum (field_product (c 0) (d 0))) none ∙ sum_zero _ (product_below (c 0) (d 0)))
product_of-total (suc m) c d (suc t) = ap (λ s. field_sum s (field_product (c 0) (d (suc t)))) (product_of-total m (tail c) d t) ∙ sum_commutes _ _

-- and as the sum over all that adds up to t
pub column_is : (m : ℕ) (c d : ℕ → ℕ) (t : ℕ) → IsZeroFrom c m → field_total (t + 1) (λ i. field_product (c i) (d (t - i))) ≡ product_of m c d t
column_is m c d t past =
    let a : ℕ → ℕ = λ i. field_product (c i) (d (t - i)) in
    let b : ℕ → ℕ = λ i. field_product (c i) (shifted i d t) in
    let n : ℕ = m + (t + 1) in
    let same : (i : ℕ) → i < t + 1 → a i ≡ b i = λ i h. ap (field_product (c i)) (sym (shifted-at i d (t - i)) ∙ ap (shifted i d) {x = i + (t - i)} {y = t} (omega arith)) in
    field_total-same (t + 1) a b same
    ∙ sym (field_total-trim n 0 (t + 1) b (omega arith) (λ i h. absurd (omega arith)) (λ i h _. ap (field_product (c i)) (shifted-low i d t (omega arith)) ∙ product_zero (c i)) ∙ field_total-same (t + 1) (λ j. b (0 + j)) b (λ j _. ap b (omega arith)))
    ∙ field_total-trim n 0 m b (omega arith) (λ i h. absurd (omega arith)) (λ i h _. ap (λ y. field_product y (shifted i d t)) (past i (omega arith)) ∙ zero_product _)
    ∙ field_total-same m (λ j. b (0 + j)) b (λ j _. ap b (omega arith))
    ∙ sym (product_of-total m c d t)

pub adds_product : (old new f g : List ℕ) (n m : ℕ) → 0 < m → AreElements old → HasDegreeBelow f n → HasDegreeBelow g m → ((i : ℕ) → i < n + m - 1 → get_or new i 0 ≡ field_sum (get_or old i 0) (product_at f g i)) → ((i : ℕ) → n + m - 1 ≤ i → get_or new i 0 ≡ get_or old i 0) → AddsProduct old new f g
adds_product old new f g n m some elements f_below g_below sum rest z =
    let m' : ℕ = m - 1 in
    let p : ℕ → ℕ = product_of n (coefficient_of f) (coefficient_of g) in
    let k : ℕ = length old + length new + n + m in
    let g_past : IsZeroFrom (coefficient_of g) (suc m') = λ i h. g_below i (omega arith) in
    let high : IsZeroFrom p (n + m') = product_of-high n m' (coefficient_of f) (coefficient_of g) g_past in
    let place : (i : ℕ) → coefficient_of new i ≡ field_sum (coefficient_of old i) (field_product 1 (p i)) = λ i. elim (cases_lt i (n + m - 1)) [
      | inl l ↦ sum i l ∙ ap (field_sum (coefficient_of old i)) (column_is n (coefficient_of f) (coefficient_of g) i f_below ∙ sym (one_product (p i) (product_of-below n (coefficient_of f) (coefficient_of g) i)))
      | inr l ↦ rest i l ∙ sym (ap (λ y. field_sum (coefficient_of old i) (field_product 1 y)) (high i (omega arith)) ∙ ap (field_sum (coefficient_of old i)) (product_zero 1) ∙ sum_zero _ (AreElements-bounded old elements i))
    ] in
    let whole : value_to k p z ≡ field_product (value f z) (value g z) =
    value_to-enough k (n + m') p z (omega arith) high ∙ value_to-product n m' (coefficient_of f) (coefficient_of g) z g_past
    ∙ ap (λ y. field_product y (value_to (suc m') (coefficient_of g) z)) (sym (value-places n f z f_below)) ∙ ap (field_product (value f z)) (sym (value-places (suc m') g z g_past)) in
    value-room k new z (omega arith) ∙ value_to-plus k (coefficient_of new) (coefficient_of old) p 1 z (λ i _. place i)
    ∙ ap (λ y. field_sum y (field_product 1 (value_to k p z))) (sym (value-room k old z (omega arith)))
    ∙ ap (field_sum (value old z)) (one_product _ (value_to-below k p z) ∙ whole)

blend_step : (f g c d x v w : ℕ) → field_sum (field_sum (field_product f c) (field_product g d)) (field_product x (field_sum (field_product c v) (field_product d w))) ≡ field_sum (field_product c (field_sum f (field_product x v))) (field_product d (field_sum g (field_product x w)))
blend_step f g c d x v w = simp ring

-- the value of c · f + d · g
value_to-blend : (n : ℕ) (h f g : ℕ → ℕ) (c d x : ℕ) → ((i : ℕ) → i < n → h i ≡ field_sum (field_product (f i) c) (field_product (g i) d)) → value_to n h x ≡ field_sum (field_product c (value_to n f x)) (field_product d (value_to n g x))
value_to-blend zero h f g c d x e = sym (rw (product_zero, product_zero) zero_sum_zero)
value_to-blend (suc n) h f g c d x e = rw (e 0 (omega arith), value_to-blend n (tail h) (tail f) (tail g) c d x (λ i l. e (suc i) (omega arith))) (blend_step (f 0) (g 0) c d x (value_to n (tail f) x) (value_to n (tail g) x))

pub is_blend : (old new other : List ℕ) (c d reach : ℕ) → HasDegreeBelow old reach → HasDegreeBelow other reach → ((i : ℕ) → i < reach → get_or new i 0 ≡ field_sum (field_product (get_or old i 0) c) (field_product (get_or other i 0) d)) → ((i : ℕ) → reach ≤ i → get_or new i 0 ≡ get_or old i 0) → IsBlend old new c d other
is_blend old new other c d reach old_below other_below blend rest z =
    value-places reach new z (λ i h. rest i h ∙ old_below i h)
    ∙ value_to-blend reach (coefficient_of new) (coefficient_of old) (coefficient_of other) c d z blend
    ∙ ap (λ y. field_sum (field_product c y) (field_product d (value_to reach (coefficient_of other) z))) (sym (value-places reach old z old_below))
    ∙ ap (λ y. field_sum (field_product c (value old z)) (field_product d y)) (sym (value-places reach other z other_below))

split_step : (c x a p v : ℕ) → field_sum c (field_product x (field_sum a (field_product p v))) ≡ field_sum (field_sum c (field_product x a)) (field_product (field_product x p) v)
split_step c x a p v = simp ring

-- the first n places and the m after them
pub value_to-split : (n m : ℕ) (c : ℕ → ℕ) (x : ℕ) → value_to (n + m) c x ≡ field_sum (value_to n c x) (field_product (field_power x n) (value_to m (λ i. c (n + i)) x))
value_to-split zero m c x = ap (λ k. value_to k c x) {x = zero + m} {y = m} (omega arith) ∙ sym (ap (field_sum 0) (ap (λ y. field_product y (value_to m c x)) (power_zero x) ∙ one_product _ (value_to-below m c x)) ∙ zero_sum _ (value_to-below m c x))
    ∙ ap (λ y. field_sum 0 (field_product (field_power x 0) y)) (value_to-same m c (λ i. c (0 + i)) x (λ i _. ap c (omega arith)))
value_to-split (suc n) m c x =
    ap (λ k. value_to k c x) {x = suc n + m} {y = suc (n + m)} (omega arith)
    ∙ ap (λ y. field_sum (c 0) (field_product x y)) (value_to-split n m (tail c) x)
    ∙ split_step (c 0) x (value_to n (tail c) x) (field_power x n) (value_to m (λ i. c (suc (n + i))) x)
    ∙ ap (λ p. field_sum (value_to (suc n) c x) (field_product p (value_to m (λ i. c (suc (n + i))) x))) (sym (power-suc x n))
    ∙ ap (λ y. field_sum (value_to (suc n) c x) (field_product (field_power x (suc n)) y)) (value_to-same' m (λ i. c (suc (n + i))) (λ i. c (suc n + i)) x (λ i. ap c (omega arith)))
  where
    value_to-same' : (m : ℕ) (c d : ℕ → ℕ) (x : ℕ) → ((i : ℕ) → c i ≡ d i) → value_to m c x ≡ value_to m d x
    value_to-same' zero c d x e = refl
    value_to-same' (suc m) c d x e = rw (e 0, value_to-same' m (tail c) (tail d) x (λ i. e (suc i))) refl

-- a sum with the powers is a value
pub powers_value : (n : ℕ) (c p : ℕ → ℕ) (x : ℕ) → IsBounded c → ((i : ℕ) → i < n → p i ≡ field_power x i) → field_total n (λ i. field_product (c i) (p i)) ≡ value_to n c x
powers_value n c p x bounded powers = field_total-same n _ (λ i. field_product (c i) (field_power x i)) (λ i h. ap (field_product (c i)) (powers i h)) ∙ sym (value_to-sum n c x bounded)

-- the column, in the places where neither factor is past its end
pub column_trimmed : (f g reversed : List ℕ) (n m t low count other : ℕ) → HasDegreeBelow f n → HasDegreeBelow g m → ((i : ℕ) → i < m → get_or reversed i 0 ≡ get_or g (m - 1 - i) 0) →
    low + count ≤ t + 1 → (low + count < t + 1 → n ≤ low + count) → (0 < low → low + m ≡ t + 1) → t + 1 ≤ m + low → other + (t + 1) ≡ m + low →
    product_at f g t ≡ field_total count (λ i. field_product (get_or f (low + i) 0) (get_or reversed (other + i) 0))
column_trimmed f g reversed n m t low count other f_below g_below is within end start enough place =
    let a : ℕ → ℕ = λ i. field_product (get_or f i 0) (get_or g (t - i) 0) in
    field_total-trim (t + 1) low count a within
    (λ i h. ap (field_product (get_or f i 0)) (g_below (t - i) (omega (arith, start (omega arith)))) ∙ product_zero _)
    (λ i past h. ap (λ y. field_product y (get_or g (t - i) 0)) (f_below i (omega (arith, end (omega arith)))) ∙ zero_product _)
    ∙ field_total-same count (λ j. a (low + j)) _ (λ j h. ap (field_product (get_or f (low + j) 0)) (sym (is (other + j) (omega arith) ∙ ap (λ k. get_or g k 0) (omega (arith, place)))))

pub adds_nothing : (old f g : List ℕ) → ((i : ℕ) → get_or f i 0 ≡ 0) ⊎ ((i : ℕ) → get_or g i 0 ≡ 0) → AddsProduct old old f g
adds_nothing old f g none z = sym (ap (field_sum (value old z)) (by none) ∙ sum_zero _ (value-below old z))
  where
    by : ((i : ℕ) → get_or f i 0 ≡ 0) ⊎ ((i : ℕ) → get_or g i 0 ≡ 0) → field_product (value f z) (value g z) ≡ 0
    by (inl e) = ap (λ y. field_product y (value g z)) (value-zero f z e) ∙ zero_product _
    by (inr e) = ap (field_product (value f z)) (value-zero g z e) ∙ product_zero _
