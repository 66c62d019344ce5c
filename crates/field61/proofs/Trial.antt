-- Small primes by trial division.
use Rattle.std.proofs.Common.{◌≡◌, ◌⊎◌, ℕ, zero, suc, ◌-◌, ◌%◌, ◌<◌, ◌≤◌, Bool, true, false, ◌&&◌, ◌==◌, not, refl, sym, subst, inl, inr, arith}
use Rattle.std.proofs.Math.Nat.{eq-or-lt_of_le, le_of_dvd, mod-eq-zero_of_dvd, eq-zero_of_zero-dvd}
use Rattle.std.specs.Int.{◌∣◌}
use Rattle.field61.specs.Prime.{IsPrime}

-- whether no number from 2 to d divides q
abbrev no_divisor : ℕ → ℕ → Bool
no_divisor q zero = true
no_divisor q (suc zero) = true
no_divisor q (suc (suc d)) = not (q % suc (suc d) == 0) && no_divisor q (suc d)

-- both of two tests passed
both : (a b : Bool) → (a && b) ≡ true → (a ≡ true) × (b ≡ true)
both true b h = (refl, h)
both false b h = absurd (cc)

-- a number that the test for 0 distinguishes from it
positive_if_not_zero : (x : ℕ) → not (x == 0) ≡ true → 0 < x
positive_if_not_zero zero h = absurd (cc)
positive_if_not_zero (suc x) h = omega arith

-- what passes the test is divided by none of these numbers
no_divisor_sound : (q k : ℕ) → no_divisor q k ≡ true → (d : ℕ) → 1 < d → d ≤ k → 0 < q % d
no_divisor_sound q zero h d above le = absurd (omega arith)
no_divisor_sound q (suc zero) h d above le = absurd (omega arith)
no_divisor_sound q (suc (suc k)) h d above le =
    let parts = both (not (q % suc (suc k) == 0)) (no_divisor q (suc k)) h in
    elim (eq-or-lt_of_le le) [
      | inl same ↦ subst (λ (z : ℕ). 0 < q % z) (sym same) (positive_if_not_zero (q % suc (suc k)) parts.0)
      | inr less ↦ no_divisor_sound q (suc k) parts.1 d above (omega arith)
    ]

-- a number that passes the test up to itself is prime
pub prime_by_trial : (q : ℕ) → 1 < q → no_divisor q (q - 1) ≡ true → IsPrime q
prime_by_trial q above test = record { above_one = above; divisors = divisors }
  where
    divisors : (d : ℕ) → d ∣ q → (d ≡ 1) ⊎ (d ≡ q)
    divisors zero g = absurd (let e = eq-zero_of_zero-dvd g in omega arith)
    divisors (suc zero) g = inl refl
    divisors (suc (suc d)) g = elim (eq-or-lt_of_le (le_of_dvd (omega arith) g)) [
      | inl same ↦ inr same
      | inr less ↦ absurd (let some = no_divisor_sound q (q - 1) test (suc (suc d)) (omega arith) (omega arith) in let none = mod-eq-zero_of_dvd (suc (suc d)) g in omega arith)
    ]
