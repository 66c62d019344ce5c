-- The laws of the field over its words.
use Rattle.std.proofs.Common.{◌≡◌, ◌⊎◌, ℕ, zero, suc, ◌+◌, ◌-◌, ◌*◌, ◌/◌, ◌%◌, ◌^◌, ◌<◌, pos, ◌-ℤ◌, refl, sym, ap, ◌∙◌, inl, inr, arith, lit<}
use Rattle.std.proofs.Math.Nat.{mod-lt, mod-eq_of_lt, div-add-mod, pow-zero, pow-suc, mod-add-mod, add-mod-mod, mul_assoc, mod_self, zero-mod}
use Rattle.std.proofs.lemmas.Nat.{mul-mod_first, mul-mod_second}
use Rattle.std.proofs.lemmas.Int.{ints, int_rem_euclid_is}
use Rattle.std.specs.Int.{int_rem_euclid}
use Rattle.field61.specs.declared.TheConstants.{MODULUS}
use Rattle.field61.specs.Laws.{IsCommutativeRing, HasOneInverse}
use Rattle.field61.specs.Field.{field_sum, field_difference, field_negative, field_product, field_power}
use Rattle.field61.proofs.Fermat.{fermat_inverse}
use Rattle.field61.proofs.Modulus.{modulus_is_prime}

-- the modulus as a bound
pub modulus_positive : 0 < MODULUS
modulus_positive = lit< tt

pub modulus_above_one : 1 < MODULUS
modulus_above_one = lit< tt

-- each word gives a number below the modulus
pub sum_below : (a b : ℕ) → field_sum a b < MODULUS
unfolding field_sum
sum_below a b = mod-lt (a + b) modulus_positive

pub difference_below : (a b : ℕ) → field_difference a b < MODULUS
unfolding field_difference
difference_below a b = mod-lt (a + (MODULUS - b % MODULUS)) modulus_positive

pub negative_below : (a : ℕ) → field_negative a < MODULUS
unfolding field_negative
negative_below a = mod-lt (MODULUS - a % MODULUS) modulus_positive

pub product_below : (a b : ℕ) → field_product a b < MODULUS
unfolding field_product
product_below a b = mod-lt (a * b) modulus_positive

pub power_below : (a e : ℕ) → field_power a e < MODULUS
unfolding field_power
power_below a e = mod-lt (a ^ e) modulus_positive

-- sums
pub sum_commutes : (a b : ℕ) → field_sum a b ≡ field_sum b a
unfolding field_sum
sum_commutes a b = ap (λ (x : ℕ). x % MODULUS) {x = a + b} {y = b + a} (omega arith)

pub sum_associates : (a b c : ℕ) → field_sum (field_sum a b) c ≡ field_sum a (field_sum b c)
unfolding field_sum
sum_associates a b c =
    mod-add-mod (a + b) MODULUS c ∙ ap (λ (x : ℕ). x % MODULUS) {x = a + b + c} {y = a + (b + c)} (omega arith) ∙ sym (add-mod-mod a (b + c) MODULUS)

pub sum_left_commutes : (a b c : ℕ) → field_sum a (field_sum b c) ≡ field_sum b (field_sum a c)
sum_left_commutes a b c = sym (sum_associates a b c) ∙ ap (λ (x : ℕ). field_sum x c) (sum_commutes a b) ∙ sum_associates b a c

pub sum_zero : (a : ℕ) → a < MODULUS → field_sum a 0 ≡ a
unfolding field_sum
sum_zero a below = ap (λ (x : ℕ). x % MODULUS) {x = a + 0} {y = a} (omega arith) ∙ mod-eq_of_lt below

pub zero_sum : (a : ℕ) → a < MODULUS → field_sum 0 a ≡ a
zero_sum a below = sum_commutes 0 a ∙ sum_zero a below

-- products
pub product_commutes : (a b : ℕ) → field_product a b ≡ field_product b a
unfolding field_product
product_commutes a b = ap (λ (x : ℕ). x % MODULUS) {x = a * b} {y = b * a} (omega arith)

pub product_associates : (a b c : ℕ) → field_product (field_product a b) c ≡ field_product a (field_product b c)
unfolding field_product
product_associates a b c =
    mul-mod_first (a * b) c MODULUS ∙ ap (λ (x : ℕ). x % MODULUS) (mul_assoc a b c) ∙ sym (mul-mod_second a (b * c) MODULUS)

pub product_left_commutes : (a b c : ℕ) → field_product a (field_product b c) ≡ field_product b (field_product a c)
product_left_commutes a b c =
    sym (product_associates a b c) ∙ ap (λ (x : ℕ). field_product x c) (product_commutes a b) ∙ product_associates b a c

pub product_one : (a : ℕ) → a < MODULUS → field_product a 1 ≡ a
unfolding field_product
product_one a below = ap (λ (x : ℕ). x % MODULUS) {x = a * 1} {y = a} (omega arith) ∙ mod-eq_of_lt below

pub one_product : (a : ℕ) → a < MODULUS → field_product 1 a ≡ a
one_product a below = product_commutes 1 a ∙ product_one a below

pub product_zero : (a : ℕ) → field_product a 0 ≡ 0
unfolding field_product
product_zero a = ap (λ (x : ℕ). x % MODULUS) {x = a * 0} {y = 0} (omega arith) ∙ zero-mod MODULUS

pub zero_product : (a : ℕ) → field_product 0 a ≡ 0
zero_product a = product_commutes 0 a ∙ product_zero a

-- a product with a sum
pub product_distributes : (a b c : ℕ) → field_product a (field_sum b c) ≡ field_sum (field_product a b) (field_product a c)
unfolding field_sum field_product
product_distributes a b c =
    mul-mod_second a (b + c) MODULUS
    ∙ ap (λ (x : ℕ). x % MODULUS) {x = a * (b + c)} {y = a * b + a * c} (omega arith)
    ∙ sym (add-mod-mod (a * b % MODULUS) (a * c) MODULUS ∙ mod-add-mod (a * b) MODULUS (a * c))

pub product_distributes_right : (a b c : ℕ) → field_product (field_sum a b) c ≡ field_sum (field_product a c) (field_product b c)
product_distributes_right a b c = simp (product_commutes, product_distributes)

-- sorts sums of products
pub ruleset ring = (sum_commutes, sum_associates, sum_left_commutes, product_commutes, product_associates, product_left_commutes, product_distributes, product_distributes_right)

-- negatives
pub sum_negative : (a : ℕ) → field_sum a (field_negative a) ≡ 0
unfolding field_sum field_negative
sum_negative a =
    let less : a % MODULUS < MODULUS = mod-lt a modulus_positive in
    add-mod-mod a (MODULUS - a % MODULUS) MODULUS ∙ sym (mod-add-mod a MODULUS (MODULUS - a % MODULUS))
    ∙ ap (λ (x : ℕ). x % MODULUS) {x = a % MODULUS + (MODULUS - a % MODULUS)} {y = MODULUS} (omega arith) ∙ mod_self MODULUS

-- what is added can be taken off
pub sum_cancels : (a b c : ℕ) → b < MODULUS → c < MODULUS → field_sum a b ≡ field_sum a c → b ≡ c
sum_cancels a b c b_below c_below same = sym (taken_off b b_below) ∙ ap (field_sum (field_negative a)) same ∙ taken_off c c_below
  where
    taken_off : (x : ℕ) → x < MODULUS → field_sum (field_negative a) (field_sum a x) ≡ x
    taken_off x below =
        sum_left_commutes (field_negative a) a x ∙ sym (sum_associates a (field_negative a) x)
        ∙ ap (λ (z : ℕ). field_sum z x) (sum_negative a) ∙ zero_sum x below

pub negative_zero : field_negative 0 ≡ 0
negative_zero = sym (zero_sum (field_negative 0) (negative_below 0)) ∙ sum_negative 0

-- only 0 has the negative 0
pub negative_is_zero : (a : ℕ) → a < MODULUS → field_negative a ≡ 0 → a ≡ 0
negative_is_zero a below none = sym (sum_zero a below) ∙ ap (field_sum a) (sym none) ∙ sum_negative a

pub negative_product : (a b : ℕ) → field_product (field_negative a) b ≡ field_negative (field_product a b)
negative_product a b = sum_cancels (field_product a b) _ _ (product_below _ _) (negative_below _) (both ∙ sym (sum_negative (field_product a b)))
  where
    both : field_sum (field_product a b) (field_product (field_negative a) b) ≡ 0
    both = sym (product_distributes_right a (field_negative a) b) ∙ ap (λ (z : ℕ). field_product z b) (sum_negative a) ∙ zero_product b

-- differences
pub difference_is_sum : (a b : ℕ) → field_difference a b ≡ field_sum a (field_negative b)
unfolding field_sum field_difference field_negative
difference_is_sum a b = sym (add-mod-mod a (MODULUS - b % MODULUS) MODULUS)

-- a difference is what is to be added to the second number to get the first
pub sum_difference : (a b : ℕ) → a < MODULUS → field_sum b (field_difference a b) ≡ a
sum_difference a b below =
    ap (field_sum b) (difference_is_sum a b) ∙ sum_left_commutes b a (field_negative b) ∙ ap (field_sum a) (sum_negative b) ∙ sum_zero a below

pub difference_self : (a : ℕ) → field_difference a a ≡ 0
difference_self a = difference_is_sum a a ∙ sum_negative a

pub difference_zero : (a : ℕ) → a < MODULUS → field_difference a 0 ≡ a
difference_zero a below = sym (zero_sum (field_difference a 0) (difference_below a 0)) ∙ sum_difference a 0 below

-- only equal numbers have the difference 0
pub difference_is_zero : (a b : ℕ) → a < MODULUS → b < MODULUS → field_difference a b ≡ 0 → a ≡ b
difference_is_zero a b a_below b_below none = sym (sum_difference a b a_below) ∙ ap (field_sum b) none ∙ sum_zero b b_below

-- a difference is the remainder of the difference of integers
pub difference_of_integers : (a b : ℕ) → pos (field_difference a b) ≡ int_rem_euclid (pos a -ℤ pos b) (pos MODULUS)
unfolding field_difference
difference_of_integers a b =
    let split = div-add-mod b MODULUS in
    let less : b % MODULUS < MODULUS = mod-lt b modulus_positive in
    sym (int_rem_euclid_is (pos a -ℤ pos b) (pos MODULUS) MODULUS (b / MODULUS + 1) (a + (MODULUS - b % MODULUS)) modulus_positive refl (omega (arith, ints, split)))

-- inverses
pub inverse_exists : (a : ℕ) → a < MODULUS → (a ≡ 0 → ⊥) → (b : ℕ) × (b < MODULUS) × (field_product a b ≡ 1)
unfolding field_product
inverse_exists a below nonzero =
    let same : a % MODULUS ≡ a = mod-eq_of_lt below in (
      a ^ (MODULUS - 2) % MODULUS,
      mod-lt (a ^ (MODULUS - 2)) modulus_positive,
      mul-mod_second a (a ^ (MODULUS - 2)) MODULUS ∙ fermat_inverse MODULUS a modulus_is_prime (omega (arith, same, nonzero)),
    )

-- a power is a repeated product
pub power_zero : (a : ℕ) → field_power a 0 ≡ 1
unfolding field_power
power_zero a = ap (λ (x : ℕ). x % MODULUS) (pow-zero a) ∙ mod-eq_of_lt modulus_above_one

pub power_next : (a e : ℕ) → field_power a (e + 1) ≡ field_product (field_power a e) a
unfolding field_power field_product
power_next a e =
    let next : e + 1 ≡ suc e = omega arith in
    ap (λ (x : ℕ). x % MODULUS) (ap (λ (x : ℕ). a ^ x) next ∙ pow-suc a e) ∙ sym (mul-mod_first (a ^ e) a MODULUS)

-- a factor that is not 0 can be taken off
pub product_cancels : (a b c : ℕ) → a < MODULUS → b < MODULUS → c < MODULUS → (a ≡ 0 → ⊥) → field_product a b ≡ field_product a c → b ≡ c
product_cancels a b c a_below b_below c_below nonzero same =
    sym (taken_off b b_below) ∙ ap (field_product (inverse_exists a a_below nonzero).0) same ∙ taken_off c c_below
  where
    taken_off : (x : ℕ) → x < MODULUS → field_product (inverse_exists a a_below nonzero).0 (field_product a x) ≡ x
    taken_off x below =
        product_left_commutes (inverse_exists a a_below nonzero).0 a x ∙ sym (product_associates a (inverse_exists a a_below nonzero).0 x)
        ∙ ap (λ (z : ℕ). field_product z x) (inverse_exists a a_below nonzero).2 ∙ one_product x below

pub no_zero_divisors : (a b : ℕ) → a < MODULUS → b < MODULUS → field_product a b ≡ 0 → (a ≡ 0) ⊎ (b ≡ 0)
no_zero_divisors zero b a_below b_below none = inl refl
no_zero_divisors (suc a) b a_below b_below none =
    inr (product_cancels (suc a) b 0 a_below b_below modulus_positive (λ e. absurd (omega arith)) (none ∙ sym (product_zero (suc a))))

pub one_inverse : (a b c : ℕ) → a < MODULUS → b < MODULUS → c < MODULUS → field_product a b ≡ 1 → field_product a c ≡ 1 → b ≡ c
one_inverse a b c a_below b_below c_below first second = product_cancels a b c a_below b_below c_below nonzero (first ∙ sym second)
  where
    nonzero : a ≡ 0 → ⊥
    nonzero e = let none : field_product a b ≡ 0 = ap (λ (z : ℕ). field_product z b) e ∙ zero_product b in absurd (omega (arith, none, first))

-- the laws together
pub commutative_ring : IsCommutativeRing MODULUS field_sum field_product field_negative
commutative_ring = record {
  sum_below = sum_below;
  sum_commutes = sum_commutes;
  sum_associates = sum_associates;
  sum_zero = sum_zero;
  negative_below = negative_below;
  sum_negative = sum_negative;
  product_below = product_below;
  product_commutes = product_commutes;
  product_associates = product_associates;
  product_one = product_one;
  product_distributes = product_distributes;
}

-- each number but 0 has one inverse
pub HasOneInverse-nonzero : (a : ℕ) → a < MODULUS → (a ≡ 0 → ⊥) → HasOneInverse MODULUS field_product a
HasOneInverse-nonzero a below nonzero =
    let found = inverse_exists a below nonzero in
    record {
      inverse = found.0;
      below = found.1;
      is_inverse = found.2;
      only = λ b b_below is. one_inverse a b found.0 below b_below found.1 is found.2;
    }
