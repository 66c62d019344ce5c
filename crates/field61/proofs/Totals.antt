-- Sums of products, reduced late.
use Rattle.std.proofs.Common.{◌≡◌, ℕ, zero, suc, ◌+◌, ◌*◌, ◌%◌, ◌<◌, ◌≤◌, refl, sym, ap, ◌∙◌, arith}
use Rattle.std.proofs.lemmas.Nat.{mul-le}
use Rattle.std.proofs.Math.Nat.{mod-add-mod, add-mod-mod, zero-mod}
use Rattle.field61.specs.declared.TheConstants.{MODULUS}
use Rattle.field61.specs.Field.{field_sum, field_product}
use Rattle.field61.specs.Sums.{field_total, plain_total}
use Rattle.field61.proofs.FieldLaws.{modulus_positive, sum_below, sum_associates, zero_sum}

pub plain_total-push : (n : ℕ) (t : ℕ → ℕ) → plain_total (n + 1) t ≡ plain_total n t + t n
plain_total-push zero t = omega arith
plain_total-push (suc n) t = ap (λ m. plain_total m t) {x = suc n + 1} {y = suc (n + 1)} (omega arith) ∙ ap (λ m. t 0 + m) (plain_total-push n (λ i. t (suc i))) ∙ omega arith

pub sum_of_remainders : (p q : ℕ) → field_sum (p % MODULUS) (q % MODULUS) ≡ (p + q) % MODULUS
unfolding field_sum
sum_of_remainders p q = add-mod-mod (p % MODULUS) q MODULUS ∙ mod-add-mod p MODULUS q

pub two_products : (a b c d : ℕ) → (a * b + c * d) % MODULUS ≡ field_sum (field_product a b) (field_product c d)
unfolding field_product
two_products a b c d = sym (sum_of_remainders (a * b) (c * d))

pub field_total-plain : (n : ℕ) (f g : ℕ → ℕ) → plain_total n (λ i. f i * g i) % MODULUS ≡ field_total n (λ i. field_product (f i) (g i))
unfolding field_product
field_total-plain zero f g = zero-mod MODULUS
field_total-plain (suc n) f g = sym (sum_of_remainders (f 0 * g 0) (plain_total n (λ i. f (suc i) * g (suc i)))) ∙ ap (field_sum (f 0 * g 0 % MODULUS)) (field_total-plain n (λ i. f (suc i)) (λ i. g (suc i)))

pub product_bound : (a b : ℕ) → a < MODULUS → b < MODULUS → a * b ≤ 5316911983139663487003542222693990400
product_bound a b a_below b_below = let most : a * b ≤ 2305843009213693950 * 2305843009213693950 = mul-le a b 2305843009213693950 2305843009213693950 (omega arith) (omega arith) in omega (arith, most)

pub field_total-below : (n : ℕ) (t : ℕ → ℕ) → field_total n t < MODULUS
field_total-below zero t = modulus_positive
field_total-below (suc n) t = sum_below (t 0) _

pub field_total-same : (n : ℕ) (t u : ℕ → ℕ) → ((i : ℕ) → i < n → t i ≡ u i) → field_total n t ≡ field_total n u
field_total-same zero t u e = refl
field_total-same (suc n) t u e = rw (e 0 (omega arith), field_total-same n (λ i. t (suc i)) (λ i. u (suc i)) (λ i h. e (suc i) (omega arith)))

-- the first n terms and the m after them
pub field_total-split : (n m : ℕ) (t : ℕ → ℕ) → field_total (n + m) t ≡ field_sum (field_total n t) (field_total m (λ i. t (n + i)))
field_total-split zero m t = ap (λ k. field_total k t) {x = zero + m} {y = m} (omega arith) ∙ sym (zero_sum _ (field_total-below m t)) ∙ ap (field_sum 0) (field_total-same m t (λ i. t (0 + i)) (λ i _. ap t (omega arith)))
field_total-split (suc n) m t =
    ap (λ k. field_total k t) {x = suc n + m} {y = suc (n + m)} (omega arith)
    ∙ ap (field_sum (t 0)) (field_total-split n m (λ i. t (suc i)))
    ∙ sym (sum_associates (t 0) (field_total n (λ i. t (suc i))) (field_total m (λ i. t (suc (n + i)))))
    ∙ ap (field_sum (field_sum (t 0) (field_total n (λ i. t (suc i))))) (field_total-same m (λ i. t (suc (n + i))) (λ i. t (suc n + i)) (λ i _. ap t (omega arith)))
