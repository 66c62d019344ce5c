-- Small facts about field elements.
use Rattle.std.proofs.Common.{ℕ, suc, ◌+◌, ◌<◌, ◌≡◌, ◌⊎◌, ◌∙◌, sym, ap, arith, inl, inr}
use Rattle.field61.specs.declared.TheConstants.{MODULUS}
use Rattle.field61.specs.Field.{field_sum, field_product, field_negative, field_difference, field_power}
use Rattle.field61.proofs.FieldLaws.{negative_below, sum_commutes, product_below, sum_zero, zero_sum, sum_associates, sum_negative, product_zero, zero_product, product_commutes, one_product, product_cancels, negative_product, difference_is_sum, difference_zero, difference_is_zero, modulus_positive, power_next}

pub zero_sum_zero : field_sum 0 0 ≡ 0
zero_sum_zero = sum_zero 0 modulus_positive

pub zero_sum_product : (a b : ℕ) → field_sum 0 (field_product a b) ≡ field_product a b
zero_sum_product a b = zero_sum _ (product_below a b)

-- the product with -1
minus_one : (a : ℕ) → a < MODULUS → field_product (field_negative 1) a ≡ field_negative a
minus_one a below = negative_product 1 a ∙ ap field_negative (one_product a below)

pub minus_self : (a : ℕ) → a < MODULUS → field_sum a (field_product (field_negative 1) a) ≡ 0
minus_self a below = ap (field_sum a) (minus_one a below) ∙ sum_negative a

pub minus_is_zero : (a b : ℕ) → a < MODULUS → b < MODULUS → field_sum a (field_product (field_negative 1) b) ≡ 0 → a ≡ b
minus_is_zero a b a_below b_below none = difference_is_zero a b a_below b_below (difference_is_sum a b ∙ ap (field_sum a) (sym (minus_one b b_below)) ∙ none)

pub minus_minus : field_negative (field_negative 1) ≡ 1
minus_minus =
    let n : ℕ = field_negative 1 in
    minus_is_zero (field_negative n) 1 (negative_below n) (omega arith) (ap (field_sum (field_negative n)) (minus_one 1 (omega arith)) ∙ sum_commutes (field_negative n) n ∙ sum_negative n)

-- taking a product off is adding that with the negative
pub difference-product : (x c o : ℕ) → field_difference x (field_product c o) ≡ field_sum x (field_product (field_negative c) o)
difference-product x c o = difference_is_sum x (field_product c o) ∙ ap (field_sum x) (sym (negative_product c o))

pub zero_factor : (c o : ℕ) → (c ≡ 0) ⊎ (o ≡ 0) → field_product c o ≡ 0
zero_factor c o (inl e) = rw e (zero_product o)
zero_factor c o (inr e) = rw e (product_zero c)

-- a product with a factor 0 takes nothing off
pub nothing_taken : (x c o : ℕ) → x < MODULUS → (c ≡ 0) ⊎ (o ≡ 0) → field_difference x (field_product c o) ≡ x
nothing_taken x c o below factor = ap (field_difference x) (zero_factor c o factor) ∙ difference_zero x below

-- what was added is taken off again
pub taken_back : (o p : ℕ) → o < MODULUS → o ≡ field_difference (field_sum o p) p
taken_back o p below = sym (difference_is_sum (field_sum o p) p ∙ sum_associates o p (field_negative p) ∙ ap (field_sum o) (sum_negative p) ∙ sum_zero o below)

pub one_is_not_zero : (x : ℕ) → x ≡ 1 → x ≡ 0 → ⊥
one_is_not_zero x one none = absurd (omega arith)

-- if the first factor is not 0
pub other_factor : (a b : ℕ) → a < MODULUS → b < MODULUS → (a ≡ 0 → ⊥) → field_product a b ≡ 0 → b ≡ 0
other_factor a b a_below b_below nonzero none = product_cancels a b 0 a_below b_below modulus_positive nonzero (none ∙ sym (product_zero a))

pub power-suc : (x i : ℕ) → field_power x (suc i) ≡ field_product x (field_power x i)
power-suc x i = ap (field_power x) {x = suc i} {y = i + 1} (omega arith) ∙ power_next x i ∙ product_commutes (field_power x i) x
