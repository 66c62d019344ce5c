-- Polynomials as functions from the place to the coefficient, with a count of the places that are looked at.
use Rattle.std.proofs.Common.{ℕ, zero, suc, ◌+◌, ◌-◌, ◌<◌, ◌≤◌, ◌≡◌, ◌∙◌, sym, ap, refl, arith}
use Rattle.field61.specs.declared.TheConstants.{MODULUS}
use Rattle.field61.specs.Field.{field_sum, field_product, field_power}
use Rattle.field61.proofs.FieldLaws.{power_zero, ring, modulus_positive, sum_below, sum_associates, sum_zero, product_zero, zero_product, product_associates, product_left_commutes, product_one, one_product, product_distributes}
use Rattle.field61.specs.Sums.{field_total}
use Rattle.poly61.proofs.Elements.{zero_sum_zero, zero_sum_product, power-suc}

-- zero from this place on
abbrev pub IsZeroFrom : (ℕ → ℕ) → ℕ → Type 0
IsZeroFrom c n = (i : ℕ) → n ≤ i → c i ≡ 0

-- each is a field element
abbrev pub IsBounded : (ℕ → ℕ) → Type 0
IsBounded c = (i : ℕ) → c i < MODULUS

-- without the first place
abbrev pub tail : (ℕ → ℕ) → ℕ → ℕ
tail c i = c (suc i)

-- the value at x of the first n places
abbrev pub value_to : ℕ → (ℕ → ℕ) → ℕ → ℕ
value_to zero c x = 0
value_to (suc n) c x = field_sum (c 0) (field_product x (value_to n (tail c) x))

pub value_to-below : (n : ℕ) (c : ℕ → ℕ) (x : ℕ) → value_to n c x < MODULUS
value_to-below zero c x = modulus_positive
value_to-below (suc n) c x = sum_below (c 0) _

pub value_to-same : (n : ℕ) (c d : ℕ → ℕ) (x : ℕ) → ((i : ℕ) → i < n → c i ≡ d i) → value_to n c x ≡ value_to n d x
value_to-same zero c d x e = refl
value_to-same (suc n) c d x e = rw (e 0 (omega arith), value_to-same n (tail c) (tail d) x (λ i h. e (suc i) (omega arith)))

pub value_to-zero : (n : ℕ) (c : ℕ → ℕ) (x : ℕ) → ((i : ℕ) → i < n → c i ≡ 0) → value_to n c x ≡ 0
value_to-zero zero c x e = refl
value_to-zero (suc n) c x e = rw (e 0 (omega arith), value_to-zero n (tail c) x (λ i h. e (suc i) (omega arith)), product_zero) zero_sum_zero

-- zeros past the bound do not count
pub value_to-more : (n k : ℕ) (c : ℕ → ℕ) (x : ℕ) → ((i : ℕ) → n ≤ i → c i ≡ 0) → value_to (n + k) c x ≡ value_to n c x
value_to-more zero k c x e = ap (λ m. value_to m c x) {y = k} (omega arith) ∙ value_to-zero k c x (λ i h. e i (omega arith))
value_to-more (suc n) k c x e = ap (λ m. value_to m c x) {y = suc (n + k)} (omega arith) ∙ ap (λ v. field_sum (c 0) (field_product x v)) (value_to-more n k (tail c) x (λ i h. e (suc i) (omega arith)))

-- the value of f + t * g
pub value_to-plus : (n : ℕ) (h f g : ℕ → ℕ) (t x : ℕ) → ((i : ℕ) → i < n → h i ≡ field_sum (f i) (field_product t (g i))) → value_to n h x ≡ field_sum (value_to n f x) (field_product t (value_to n g x))
value_to-plus zero h f g t x e = rw product_zero (sym zero_sum_zero)
value_to-plus (suc n) h f g t x e = rw (e 0 (omega arith), value_to-plus n (tail h) (tail f) (tail g) t x (λ i l. e (suc i) (omega arith))) (simp ring)

-- x * g
abbrev pub raised : (ℕ → ℕ) → ℕ → ℕ
raised g zero = 0
raised g (suc i) = g i

pub value_to-raised : (n : ℕ) (g : ℕ → ℕ) (x : ℕ) → value_to (suc n) (raised g) x ≡ field_product x (value_to n g x)
value_to-raised n g x = zero_sum_product x _

-- division by (x - a): the quotient's coefficients are the values at a of the tails
abbrev pub quotient_of : ℕ → (ℕ → ℕ) → ℕ → ℕ → ℕ
quotient_of zero c a i = 0
quotient_of (suc n) c a zero = value_to (suc n) c a
quotient_of (suc n) c a (suc i) = quotient_of n (tail c) a i

factor_step : (c a d v q : ℕ) → field_sum c (field_product (field_sum a d) (field_sum v (field_product d q))) ≡ field_sum (field_sum c (field_product a v)) (field_product d (field_sum v (field_product (field_sum a d) q)))
factor_step c a d v q = simp ring

-- f(a + d) = f(a) + d * q(a + d)
pub factor : (n : ℕ) (c : ℕ → ℕ) (a d : ℕ) → value_to (suc n) c (field_sum a d) ≡ field_sum (value_to (suc n) c a) (field_product d (value_to n (quotient_of n (tail c) a) (field_sum a d)))
factor zero c a d = simp (product_zero, sum_associates, zero_sum_zero)
factor (suc n) c a d = ap (λ z. field_sum (c 0) (field_product (field_sum a d) z)) (factor n (tail c) a d) ∙ factor_step (c 0) a d (value_to (suc n) (tail c) a) (value_to n (quotient_of n (tail (tail c)) a) (field_sum a d))

pub quotient_of-below : (n : ℕ) (c : ℕ → ℕ) (a i : ℕ) → quotient_of n c a i < MODULUS
quotient_of-below zero c a i = modulus_positive
quotient_of-below (suc n) c a zero = value_to-below (suc n) c a
quotient_of-below (suc n) c a (suc i) = quotient_of-below n (tail c) a i

-- a zero quotient is that of a constant
pub head_zero : (n : ℕ) (c : ℕ → ℕ) (a : ℕ) → c 0 < MODULUS → value_to (suc n) c a ≡ 0 → ((i : ℕ) → i < n → tail c i ≡ 0) → c 0 ≡ 0
head_zero n c a h e z = sym (sum_zero (c 0) h) ∙ ap (field_sum (c 0)) (sym (ap (field_product a) (value_to-zero n (tail c) a z) ∙ product_zero a)) ∙ e

pub zero_from_quotient : (n : ℕ) (c : ℕ → ℕ) (a : ℕ) → ((i : ℕ) → c i < MODULUS) → ((i : ℕ) → i < n → quotient_of n c a i ≡ 0) → (i : ℕ) → i < n → c i ≡ 0
zero_from_quotient zero c a small q i h = absurd (omega arith)
zero_from_quotient (suc n) c a small q zero h = head_zero n c a (small 0) (q 0 (omega arith)) (zero_from_quotient n (tail c) a (λ j. small (suc j)) (λ j l. q (suc j) (omega arith)))
zero_from_quotient (suc n) c a small q (suc i) h = zero_from_quotient n (tail c) a (λ j. small (suc j)) (λ j l. q (suc j) (omega arith)) i (omega arith)

pub value_to-enough : (m n : ℕ) (c : ℕ → ℕ) (x : ℕ) → n ≤ m → IsZeroFrom c n → value_to m c x ≡ value_to n c x
value_to-enough m n c x h z = ap (λ k. value_to k c x) {x = m} {y = n + (m - n)} (omega arith) ∙ value_to-more n (m - n) c x z

-- the product of the first m places of c with d
abbrev pub product_of : ℕ → (ℕ → ℕ) → (ℕ → ℕ) → ℕ → ℕ
product_of zero c d i = 0
product_of (suc m) c d i = field_sum (raised (product_of m (tail c) d) i) (field_product (c 0) (d i))

pub product_of-below : (m : ℕ) (c d : ℕ → ℕ) → IsBounded (product_of m c d)
product_of-below zero c d i = modulus_positive
product_of-below (suc m) c d i = sum_below (raised (product_of m (tail c) d) i) (field_product (c 0) (d i))

raised-high : (g : ℕ → ℕ) (n : ℕ) → IsZeroFrom g n → IsZeroFrom (raised g) (suc n)
raised-high g n z zero h = absurd (omega arith)
raised-high g n z (suc i) h = z i (omega arith)

pub product_of-high : (m n : ℕ) (c d : ℕ → ℕ) → IsZeroFrom d (suc n) → IsZeroFrom (product_of m c d) (m + n)
product_of-high zero n c d z i h = refl
product_of-high (suc m) n c d z i h = rw (raised-high (product_of m (tail c) d) (m + n) (product_of-high m n (tail c) d z) i (omega arith), z i (omega arith), product_zero) zero_sum_zero

pub value_to-product : (m n : ℕ) (c d : ℕ → ℕ) (x : ℕ) → IsZeroFrom d (suc n) → value_to (m + n) (product_of m c d) x ≡ field_product (value_to m c x) (value_to (suc n) d x)
value_to-product zero n c d x z = ap (λ k. value_to k (product_of 0 c d) x) {x = 0 + n} {y = n} (omega arith) ∙ value_to-zero n (product_of 0 c d) x (λ i _. refl) ∙ sym (zero_product _)
value_to-product (suc m) n c d x z =
    let D : ℕ = value_to (suc n) d x in
    let M : ℕ → ℕ = product_of m (tail c) d in
    let more : value_to (suc (m + n)) d x ≡ D = ap (λ k. value_to k d x) {x = suc (m + n)} {y = suc n + m} (omega arith) ∙ value_to-more (suc n) m d x z in
    ap (λ k. value_to k (product_of (suc m) c d) x) {x = suc m + n} {y = suc (m + n)} (omega arith)
    ∙ value_to-plus (suc (m + n)) (product_of (suc m) c d) (raised M) d (c 0) x (λ i _. refl)
    ∙ ap (λ y. field_sum y (field_product (c 0) (value_to (suc (m + n)) d x))) (value_to-raised (m + n) M x ∙ ap (field_product x) (value_to-product m n (tail c) d x z))
    ∙ ap (λ y. field_sum (field_product x (field_product (value_to m (tail c) x) D)) (field_product (c 0) y)) more
    ∙ last (c 0) x (value_to m (tail c) x) D
  where
    last : (c x v d : ℕ) → field_sum (field_product x (field_product v d)) (field_product c d) ≡ field_product (field_sum c (field_product x v)) d
    last c x v d = simp ring

-- x^j * g
abbrev pub shifted : ℕ → (ℕ → ℕ) → ℕ → ℕ
shifted zero g = g
shifted (suc j) g = raised (shifted j g)

pub value_to-shifted : (j m : ℕ) (g : ℕ → ℕ) (x : ℕ) → value_to (j + m) (shifted j g) x ≡ field_product (field_power x j) (value_to m g x)
value_to-shifted zero m g x = ap (λ k. value_to k g x) {x = 0 + m} {y = m} (omega arith) ∙ sym (ap (λ p. field_product p (value_to m g x)) (power_zero x) ∙ one_product (value_to m g x) (value_to-below m g x))
value_to-shifted (suc j) m g x = ap (λ k. value_to k (raised (shifted j g)) x) {x = suc j + m} {y = suc (j + m)} (omega arith) ∙ value_to-raised (j + m) (shifted j g) x ∙ ap (field_product x) (value_to-shifted j m g x) ∙ sym (product_associates x (field_power x j) (value_to m g x))
    ∙ ap (λ p. field_product p (value_to m g x)) (sym (power-suc x j))

pub shifted-at : (j : ℕ) (g : ℕ → ℕ) (i : ℕ) → shifted j g (j + i) ≡ g i
shifted-at zero g i = ap g (omega arith)
shifted-at (suc j) g i = ap (raised (shifted j g)) {y = suc (j + i)} (omega arith) ∙ shifted-at j g i

pub shifted-low : (j : ℕ) (g : ℕ → ℕ) (i : ℕ) → i < j → shifted j g i ≡ 0
shifted-low zero g i h = absurd (omega arith)
shifted-low (suc j) g zero h = refl
shifted-low (suc j) g (suc i) h = shifted-low j g i (omega arith)

pub shifted-high : (j m : ℕ) (g : ℕ → ℕ) → IsZeroFrom g m → IsZeroFrom (shifted j g) (j + m)
shifted-high zero m g z i h = z i (omega arith)
shifted-high (suc j) m g z i h = raised-high (shifted j g) (j + m) (shifted-high j m g z) i (omega arith)

-- with places enough, the same number of places serves both
pub value_to-shifted_room : (N j m : ℕ) (g : ℕ → ℕ) (x : ℕ) → N ≡ j + m → IsZeroFrom g m → value_to N (shifted j g) x ≡ field_product (field_power x j) (value_to N g x)
value_to-shifted_room N j m g x e z = ap (λ k. value_to k (shifted j g) x) e ∙ value_to-shifted j m g x ∙ ap (field_product (field_power x j)) (sym (ap (λ k. value_to k g x) {x = N} {y = m + j} (omega arith) ∙ value_to-more m j g x z))

-- f + t * x^j * g
abbrev pub plus_multiple : ℕ → ℕ → (ℕ → ℕ) → (ℕ → ℕ) → ℕ → ℕ
plus_multiple t j g f i = field_sum (f i) (field_product t (shifted j g i))

pub value_to-plus_multiple : (N t j m : ℕ) (g f : ℕ → ℕ) (x : ℕ) → N ≡ j + m → IsZeroFrom g m → value_to N (plus_multiple t j g f) x ≡ field_sum (value_to N f x) (field_product t (field_product (field_power x j) (value_to N g x)))
value_to-plus_multiple N t j m g f x e z = value_to-plus N (plus_multiple t j g f) f (shifted j g) t x (λ i _. refl) ∙ ap (λ y. field_sum (value_to N f x) (field_product t y)) (value_to-shifted_room N j m g x e z)

-- the value is the sum of c_i * x^i
field_total-multiple : (n : ℕ) (g h : ℕ → ℕ) (x : ℕ) → ((i : ℕ) → h i ≡ field_product x (g i)) → field_total n h ≡ field_product x (field_total n g)
field_total-multiple zero g h x e = sym (product_zero x)
field_total-multiple (suc n) g h x e = rw (e 0, field_total-multiple n (tail g) (tail h) x (λ i. e (suc i))) (sym (product_distributes x (g 0) (field_total n (tail g))))

pub value_to-sum : (n : ℕ) (c : ℕ → ℕ) (x : ℕ) → IsBounded c → value_to n c x ≡ field_total n (λ i. field_product (c i) (field_power x i))
value_to-sum zero c x below = refl
value_to-sum (suc n) c x below =
    ap (λ z. field_sum (c 0) (field_product x z)) (value_to-sum n (tail c) x (λ i. below (suc i)))
    ∙ ap (field_sum (c 0)) (sym (field_total-multiple n (λ i. field_product (c (suc i)) (field_power x i)) (λ i. field_product (c (suc i)) (field_power x (suc i))) x
    (λ i. ap (field_product (c (suc i))) (power-suc x i) ∙ product_left_commutes (c (suc i)) x (field_power x i))))
    ∙ ap (λ z. field_sum z (field_total n (λ i. field_product (c (suc i)) (field_power x (suc i))))) (sym (ap (field_product (c 0)) (power_zero x) ∙ product_one (c 0) (below 0)))
