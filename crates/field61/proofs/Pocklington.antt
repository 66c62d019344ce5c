-- Pocklington's criterion.
use Rattle.std.proofs.Common.{◌≡◌, ℕ, zero, suc, ◌+◌, ◌-◌, ◌*◌, ◌/◌, ◌%◌, ◌^◌, ◌<◌, ◌≤◌, sym, ap, ◌∙◌, subst, inl, inr, arith, List, [], ◌∷◌, All, nat_eq, add-one}
use Rattle.std.specs.List.{IsDistinct, AllByRecursion}
use Rattle.std.proofs.Math.Nat.{zero-mod, mod-eq_of_lt, mod-mod_of_dvd, pow-zero, pow-suc, eq-zero-or-pos, eq-or-lt_of_le, le_of_dvd, dvd_of_mod-eq-zero, mod-eq-zero_of_dvd, div-add-mod, one-mul, mul-le-mul, mul_comm, mul-div_cancel', dvd-mul_left}
use Rattle.std.specs.Int.{◌∣◌}
use Rattle.std.proofs.lemmas.Nat.{pow-mod}
use Rattle.field61.specs.Prime.{IsPrime, HasWitness, product_of}
use Rattle.field61.proofs.Euclid.{descent, multiple_first, add_mod_cancels}
use Rattle.field61.proofs.Divisors.{least_divisor, LeastDivisor, IsPrime-least_divisor, primes_divide}
use Rattle.field61.proofs.Powers.{pow_reduced, pow-mul}
use Rattle.field61.proofs.Fermat.{fermat_remainder}
use Rattle.field61.proofs.Computed.{computed_power, computed_power_is_power}

-- if b to a prime q is 1 modulo a prime r, and b is not, q divides r - 1
order_divides : (q r b : ℕ) → IsPrime q → IsPrime r → b ^ q % r ≡ 1 → (b % r ≡ 1 → ⊥) → (r - 1) % q ≡ 0
order_divides q r b q_prime r_prime power apart =
    elim (eq-zero-or-pos ((r - 1) % q)) [ inl e ↦ e | inr p ↦ absurd (apart (one p)) ]
  where
    above : 1 < r
    above = r_prime.above_one

    positive : 0 < b % r
    positive = elim (eq-zero-or-pos (b % r)) [ inr p ↦ p | inl e ↦ absurd (none e) ]
      where
        none : b % r ≡ 0 → ⊥
        none e =
            let q_above : 1 < q = q_prime.above_one in
            let split : q ≡ suc (q - 1) = omega arith in
            let whole : b ^ q ≡ b * b ^ (q - 1) = ap (λ (z : ℕ). b ^ z) split ∙ pow-suc b (q - 1) ∙ mul_comm (b ^ (q - 1)) b in
            let vanishes : b ^ q % r ≡ 0 = ap (λ (z : ℕ). z % r) whole ∙ multiple_first b (b ^ (q - 1)) r e in
            omega arith

    step : (n : ℕ) → b ^ n % r ≡ 1 → b ^ (q % n) % r ≡ 1
    step n h = sym (pow_reduced b r n q above h) ∙ power

    one : 0 < (r - 1) % q → b % r ≡ 1
    one p =
        let q_above : 1 < q = q_prime.above_one in
        let below : (r - 1) % q < q = omega arith in
        let start : b ^ ((r - 1) % q) % r ≡ 1 = sym (pow_reduced b r q (r - 1) above power) ∙ fermat_remainder r b r_prime positive in
        let last : b ^ 1 % r ≡ 1 = descent q q_prime (λ n. b ^ n % r ≡ 1) step ((r - 1) % q) ((r - 1) % q) (omega arith) p below start in
        ap (λ (z : ℕ). z % r) (sym (pow-suc b 0 ∙ ap (λ (z : ℕ). z * b) (pow-zero b) ∙ one-mul b)) ∙ last

-- a prime with a witness divides r - 1 for each prime r that divides n
HasWitness_divides : (n q r : ℕ) → HasWitness n q → IsPrime r → r ∣ n → (r - 1) % q ≡ 0
HasWitness_divides n q r w r_prime d =
    order_divides q r (suc w.rest) w.is_prime r_prime
    (sym (mod-mod_of_dvd r (suc w.rest ^ q) d) ∙ ap (λ (z : ℕ). z % r) whole_power ∙ mod-eq_of_lt above)
    apart
  where
    root : w.base ^ ((n - 1) / q) % n ≡ suc w.rest
    root = w.root ∙ add-one w.rest

    above : 1 < r
    above = r_prime.above_one

    exponent : (n - 1) / q * q ≡ n - 1
    exponent = let e = div-add-mod (n - 1) q in let h : (n - 1) % q ≡ 0 = mod-eq-zero_of_dvd q w.divides in omega (arith, e, h)

    whole_power : suc w.rest ^ q % n ≡ 1
    whole_power =
        ap (λ (z : ℕ). z ^ q % n) (sym root) ∙ pow-mod (w.base ^ ((n - 1) / q)) q n
        ∙ ap (λ (z : ℕ). z % n) (sym (pow-mul w.base ((n - 1) / q) q) ∙ ap (λ (z : ℕ). w.base ^ z) exponent) ∙ w.power

    apart : suc w.rest % r ≡ 1 → ⊥
    apart e =
        let zero_rest : w.rest % r ≡ 0 = add_mod_cancels w.rest 0 1 r (omega arith) (ap (λ (z : ℕ). z % r) (let s : w.rest + 1 ≡ suc w.rest = omega arith in s) ∙ e ∙ sym (mod-eq_of_lt above)) ∙ zero-mod r in
        let product : (w.rest * w.inverse) % r ≡ 0 = multiple_first w.rest w.inverse r zero_rest in
        let unit : (w.rest * w.inverse) % r ≡ 1 = sym (mod-mod_of_dvd r (w.rest * w.inverse) d) ∙ ap (λ (z : ℕ). z % r) w.unit ∙ mod-eq_of_lt above in
        omega arith

-- a witness whose powers are computed, at exponents below 2 ^ bits
pub HasWitness-computed : (n q base rest inverse bits : ℕ) → IsPrime q → (n - 1) % q ≡ 0 → n - 1 < 2 ^ bits → (n - 1) / q < 2 ^ bits
    → computed_power n bits base (n - 1) ≡ 1 → computed_power n bits base ((n - 1) / q) ≡ rest + 1 → (rest * inverse) % n ≡ 1 → HasWitness n q
HasWitness-computed n q base rest inverse bits prime divides less small power root unit = record {
  is_prime = prime;
  divides = dvd_of_mod-eq-zero q divides;
  base = base;
  rest = rest;
  inverse = inverse;
  power = sym (computed_power_is_power n bits base (n - 1) less) ∙ power;
  root = sym (computed_power_is_power n bits base ((n - 1) / q) small) ∙ root;
  unit = unit;
}

-- what holds of each element, from the first on
by_recursion : (P : ℕ → Type 0) (xs : List ℕ) → All P xs → AllByRecursion P xs
by_recursion P [] each = tt
by_recursion P (x ∷ xs) each = (each 0 0 (omega arith), by_recursion P xs (λ k d below. each (suc k) d (omega arith)))

-- a number is prime if f divides r - 1 for each prime r that divides it, and f + 1 is above its root
prime_from_divisors : (n f : ℕ) → 1 < n → n < suc f * suc f → ((r : ℕ) → IsPrime r → r ∣ n → (r - 1) % f ≡ 0) → IsPrime n
prime_from_divisors n f above root each = elim (eq-or-lt_of_le (le_of_dvd (omega arith) l.divides)) [
  | inl same ↦ subst IsPrime same (IsPrime-least_divisor n m l)
  | inr less ↦ absurd (composite less)
]
  where
    m : ℕ
    m = (least_divisor n above).0

    l : LeastDivisor n m
    l = (least_divisor n above).1

    composite : m < n → ⊥
    composite less =
        let m_above : 1 < m = l.above_one in
        let f_low : f ≤ m - 1 = le_of_dvd (omega arith) (dvd_of_mod-eq-zero f (each m (IsPrime-least_divisor n m l) l.divides)) in
        let whole : m * (n / m) ≡ n = mul-div_cancel' m l.divides in
        let other : 1 < n / m = factor_above m (n / m) n whole less in
        let e_low : m ≤ n / m = l.least (n / m) other (subst (λ (z : ℕ). n / m ∣ z) whole (dvd-mul_left (n / m) m)) in
        let low : suc f ≤ m = omega arith in
        let product : suc f * suc f ≤ m * (n / m) = mul-le-mul low (omega arith) in
        omega arith
      where
        factor_above : (m e n : ℕ) → m * e ≡ n → m < n → 1 < e
        factor_above m zero n h g = absurd (omega arith)
        factor_above m (suc zero) n h g = absurd (omega arith)
        factor_above m (suc (suc e)) n h g = omega arith

-- Pocklington's criterion
pub pocklington : (n : ℕ) (qs : List ℕ) → 1 < n → IsDistinct nat_eq qs → All (HasWitness n) qs → n < (product_of qs + 1) * (product_of qs + 1) → IsPrime n
pocklington n qs above distinct witnesses root =
    let each = by_recursion (HasWitness n) qs witnesses in
    prime_from_divisors n (product_of qs) above (rw (sym (add-one (product_of qs))) root)
    (λ r prime divides. primes_divide (r - 1) qs distinct (mapped (λ q w. w.is_prime) qs each) (mapped (λ q w. HasWitness_divides n q r w prime divides) qs each))
  where
    mapped : {P : ℕ → Type 0} → ((q : ℕ) → HasWitness n q → P q) → (qs : List ℕ) → AllByRecursion (HasWitness n) qs → AllByRecursion P qs
    mapped f [] each = tt
    mapped f (q ∷ qs) each = (f q each.0, mapped f qs each.1)
