-- Primes, and what shows that a number is one.
use Rattle.std.specs.Prelude.{◌≡◌, ◌⊎◌, ℕ, ◌+◌, ◌-◌, ◌*◌, ◌/◌, ◌%◌, ◌^◌, ◌<◌, List, [], ◌∷◌}
use Rattle.std.specs.Int.{◌∣◌}

-- r is prime: above 1, and only 1 and r divide it
pub record IsPrime (r : ℕ) : Type 0 where
  pub above_one : 1 < r
  pub divisors : (d : ℕ) → d ∣ r → (d ≡ 1) ⊎ (d ≡ r)

-- Pocklington's witness for a prime divisor q of n - 1: base ^ (n - 1) is 1 modulo n, and base ^ ((n - 1) / q) - 1 is
-- `rest` there, which has an inverse and so no divisor in common with n.
pub record HasWitness (n q : ℕ) : Type 0 where
  pub is_prime : IsPrime q
  pub divides : q ∣ (n - 1)
  pub base : ℕ
  pub rest : ℕ
  pub inverse : ℕ
  pub power : base ^ (n - 1) % n ≡ 1
  pub root : base ^ ((n - 1) / q) % n ≡ rest + 1
  pub unit : (rest * inverse) % n ≡ 1

-- the product of the numbers
abbrev pub product_of : List ℕ → ℕ
product_of [] = 1
product_of (q ∷ qs) = q * product_of qs
