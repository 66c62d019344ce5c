-- The least divisor of a number, and numbers that are divided by several primes.
use Rattle.std.proofs.Common.{◌≡◌, ◌⊎◌, ℕ, zero, suc, ◌+◌, ◌-◌, ◌*◌, ◌/◌, ◌%◌, ◌<◌, ◌≤◌, refl, sym, ap, ◌∙◌, subst, inl, inr, arith, List, [], ◌∷◌, false, nat_eq}
use Rattle.std.specs.List.{IsDistinct, AllByRecursion}
use Rattle.std.proofs.lemmas.Bool.{eqb-false}
use Rattle.std.proofs.Math.Nat.{mod-one, mod-eq_of_lt, mul-mod_right, eq-zero-or-pos, eq-or-lt_of_le, le_of_dvd, dvd_trans, dvd_refl, dvd_of_mod-eq-zero, mod-eq-zero_of_dvd, div-add-mod, mul_comm, mul_assoc, eq-zero_of_zero-dvd}
use Rattle.std.specs.Int.{◌∣◌}
use Rattle.field61.specs.Prime.{IsPrime, product_of}
use Rattle.field61.proofs.Euclid.{euclid}

-- the least divisor of n above 1
pub record LeastDivisor (n m : ℕ) : Type 0 where
  pub above_one : 1 < m
  pub divides : m ∣ n
  pub least : (d : ℕ) → 1 < d → d ∣ n → m ≤ d

-- it is m or above if no divisor is below m
least_from : (n k m : ℕ) → m + k ≡ n → 1 < m → ((d : ℕ) → 1 < d → d ∣ n → m ≤ d) → (l : ℕ) × LeastDivisor n l
least_from n zero m e above least = (m, record { above_one = above; divides = subst (λ (z : ℕ). m ∣ z) (let s : m ≡ n = omega arith in s) (dvd_refl m); least = least })
least_from n (suc k) m e above least =
    elim (eq-zero-or-pos (n % m)) [
      | inl none ↦ (m, record { above_one = above; divides = dvd_of_mod-eq-zero m none; least = least })
      | inr some ↦ least_from n k (suc m) (omega arith) (omega arith) (λ d h g. elim (eq-or-lt_of_le (least d h g)) [
        | inl same ↦ absurd (let e : n % d ≡ 0 = mod-eq-zero_of_dvd d g in let f : n % m ≡ 0 = subst (λ (z : ℕ). n % z ≡ 0) (sym same) e in omega arith)
        | inr more ↦ more
      ])
    ]

-- each number above 1 has one
pub least_divisor : (n : ℕ) → 1 < n → (l : ℕ) × LeastDivisor n l
least_divisor n h = least_from n (n - 2) 2 (omega arith) (omega arith) (λ d above g. above)

-- the least divisor is prime
pub IsPrime-least_divisor : (n m : ℕ) → LeastDivisor n m → IsPrime m
IsPrime-least_divisor n m l = record { above_one = l.above_one; divisors = divisors }
  where
    divisors : (d : ℕ) → d ∣ m → (d ≡ 1) ⊎ (d ≡ m)
    divisors zero g = absurd (let e = eq-zero_of_zero-dvd g in let above : 1 < m = l.above_one in omega arith)
    divisors (suc zero) g = inl refl
    divisors (suc (suc d)) g =
        let above : 1 < m = l.above_one in
        let low : m ≤ suc (suc d) = l.least (suc (suc d)) (omega arith) (dvd_trans (suc (suc d)) g l.divides) in
        let high : suc (suc d) ≤ m = le_of_dvd (omega arith) g in
        inr (omega arith)

-- a product divides if a number and a prime that doesn't divide it do
product_divides : (a b x : ℕ) → IsPrime b → 0 < a % b → x % a ≡ 0 → x % b ≡ 0 → x % (b * a) ≡ 0
product_divides a b x prime apart first second =
    let once : x ≡ a * (x / a) = omega (arith, div-add-mod x a) in
    let left : (x / a) % b ≡ 0 = euclid b a (x / a) prime apart (ap (λ (z : ℕ). z % b) (sym once) ∙ second) in
    let twice : x / a ≡ b * (x / a / b) = omega (arith, div-add-mod (x / a) b) in
    ap (λ (z : ℕ). z % (b * a)) (once ∙ ap (λ (z : ℕ). a * z) twice ∙ sym (mul_assoc a b (x / a / b)) ∙ ap (λ (z : ℕ). z * (x / a / b)) (mul_comm a b))
    ∙ mul-mod_right (b * a) (x / a / b)

-- a prime doesn't divide a product of others
others_apart : (q : ℕ) (qs : List ℕ) → IsPrime q → AllByRecursion (λ s. nat_eq q s ≡ false) qs → AllByRecursion IsPrime qs → 0 < product_of qs % q
others_apart q [] prime distinct primes = let one = mod-eq_of_lt prime.above_one in omega (arith, one)
others_apart q (s ∷ qs) prime distinct primes =
    elim (eq-zero-or-pos ((s * product_of qs) % q)) [
      | inr some ↦ some
      | inl none ↦ absurd (let rest = others_apart q qs prime distinct.1 primes.1 in let no : product_of qs % q ≡ 0 = euclid q s (product_of qs) prime apart none in omega arith)
    ]
  where
    other : s % q ≡ 0 → ⊥
    other e = elim (primes.0.divisors q (dvd_of_mod-eq-zero q e)) [
      | inl one ↦ let above : 1 < q = prime.above_one in absurd (omega arith)
      | inr same ↦ eqb-false q s distinct.0 same
    ]

    apart : 0 < s % q
    apart = elim (eq-zero-or-pos (s % q)) [ inr some ↦ some | inl none ↦ absurd (other none) ]

-- distinct primes that divide a number divide it together
pub primes_divide : (x : ℕ) (qs : List ℕ) → IsDistinct nat_eq qs → AllByRecursion IsPrime qs → AllByRecursion (λ q. x % q ≡ 0) qs → x % product_of qs ≡ 0
unfolding IsDistinct
primes_divide x [] distinct primes divide = mod-one x
primes_divide x (q ∷ qs) distinct primes divide =
    product_divides (product_of qs) q x primes.0 (others_apart q qs primes.0 distinct.0 primes.1) (primes_divide x qs distinct.1 primes.1 divide.1) divide.0
