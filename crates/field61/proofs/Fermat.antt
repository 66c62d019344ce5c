-- Fermat's theorem: for a prime r that doesn't divide a, a ^ (r - 1) is 1 modulo r.
use Rattle.std.proofs.Common.{◌≡◌, ℕ, zero, suc, ◌+◌, ◌-◌, ◌*◌, ◌%◌, ◌^◌, ◌<◌, ◌≤◌, sym, ap, ◌∙◌, arith}
use Rattle.std.proofs.Math.Nat.{mul_comm, emod_pos_of_not-dvd, add-mod, add-mod-mod, zero-mod, mod-eq_of_lt, mul-mod_right, pow-suc, mul-zero, zero-add, one-le-pow}
use Rattle.std.specs.Int.{◌∣◌}
use Rattle.field61.specs.Prime.{IsPrime}
use Rattle.field61.proofs.Euclid.{euclid, add_multiple, multiple_first, add_mod_cancels}
use Rattle.field61.proofs.Binomial.{choose, choose_absorbs, choose_self, partial_sum, binomial}

-- a prime r divides choose r k for 0 < k < r
choose-mod : (n k : ℕ) → IsPrime (suc n) → suc k < suc n → choose (suc n) (suc k) % suc n ≡ 0
choose-mod n k prime h =
    let product : (suc k * choose (suc n) (suc k)) % suc n ≡ 0 = ap (λ (z : ℕ). z % suc n) (choose_absorbs n k) ∙ mul-mod_right (suc n) (choose n k) in
    let small : suc k % suc n ≡ suc k = mod-eq_of_lt h in
    euclid (suc n) (suc k) (choose (suc n) (suc k)) prime (omega (arith, small)) product

-- so the binomial sum of order r is 1 until its last term
partial_sum-mod : (a n k : ℕ) → IsPrime (suc n) → k < suc n → partial_sum a (suc n) k % suc n ≡ 1
partial_sum-mod a n zero prime h = mod-eq_of_lt prime.above_one
partial_sum-mod a n (suc k) prime h =
    add_multiple (partial_sum a (suc n) k) (choose (suc n) (suc k) * a ^ suc k) (suc n)
    (multiple_first (choose (suc n) (suc k)) (a ^ suc k) (suc n) (choose-mod n k prime h))
    ∙ partial_sum-mod a n k prime (omega arith)

-- a ^ r is a modulo r
power_same : (n : ℕ) → IsPrime (suc n) → (a : ℕ) → a ^ suc n % suc n ≡ a % suc n
power_same n prime zero = ap (λ (z : ℕ). z % suc n) (pow-suc 0 n ∙ mul-zero (0 ^ n))
power_same n prime (suc a) =
    let last = ap (λ (z : ℕ). z * a ^ suc n) (choose_self (suc n)) in
    let split : partial_sum a (suc n) (suc n) ≡ partial_sum a (suc n) n + a ^ suc n = omega (arith, last) in
    ap (λ (z : ℕ). z % suc n) (sym (binomial a (suc n)) ∙ split)
    ∙ add-mod (partial_sum a (suc n) n) (a ^ suc n) (suc n)
    ∙ ap (λ (z : ℕ). (z + a ^ suc n % suc n) % suc n) (partial_sum-mod a n n prime (omega arith))
    ∙ ap (λ (z : ℕ). (1 + z) % suc n) (power_same n prime a)
    ∙ add-mod-mod 1 a (suc n)
    ∙ ap (λ (z : ℕ). z % suc n) (let e : 1 + a ≡ suc a = omega arith in e)

-- a ^ (r - 1) is 1 modulo r
power_one : (n a : ℕ) → IsPrime (suc n) → 0 < a % suc n → a ^ n % suc n ≡ 1
power_one n a prime h =
    let above : 1 < suc n = prime.above_one in
    let positive : 0 < a = pos a h in
    let least : 1 ≤ a ^ n = one-le-pow n a positive in
    let power = pow-suc a n in
    let whole : a * (a ^ n - 1) + a ≡ a ^ suc n = split (a ^ n) least ∙ sym power in
    let same : (a * (a ^ n - 1) + a) % suc n ≡ (0 + a) % suc n =
    ap (λ (z : ℕ). z % suc n) whole ∙ power_same n prime a ∙ ap (λ (z : ℕ). z % suc n) (sym (zero-add a)) in
    let product : (a * (a ^ n - 1)) % suc n ≡ 0 = add_mod_cancels (a * (a ^ n - 1)) 0 a (suc n) (omega arith) same ∙ zero-mod (suc n) in
    let factor : (a ^ n - 1) % suc n ≡ 0 = euclid (suc n) a (a ^ n - 1) prime h product in
    let around : 1 + (a ^ n - 1) ≡ a ^ n = omega arith in
    ap (λ (z : ℕ). z % suc n) (sym around) ∙ add_multiple 1 (a ^ n - 1) (suc n) factor ∙ mod-eq_of_lt above
  where
    pos : (a : ℕ) → 0 < a % suc n → 0 < a
    pos zero g = absurd (omega (arith, zero-mod (suc n)))
    pos (suc b) g = omega arith

    split : (x : ℕ) → 1 ≤ x → a * (x - 1) + a ≡ x * a
    split zero g = absurd (omega arith)
    split (suc y) g = let e : suc y - 1 ≡ y = omega arith in rw e (omega arith)

-- Fermat's theorem, if the remainder is not 0
pub fermat_remainder : (r a : ℕ) → IsPrime r → 0 < a % r → a ^ (r - 1) % r ≡ 1
fermat_remainder zero a prime h = let above : 1 < 0 = prime.above_one in absurd (omega arith)
fermat_remainder (suc n) a prime h = let e : suc n - 1 ≡ n = omega arith in rw e (power_one n a prime h)

-- Fermat's theorem
pub fermat : (r a : ℕ) → IsPrime r → (r ∣ a → ⊥) → a ^ (r - 1) % r ≡ 1
fermat r a prime apart = fermat_remainder r a prime (emod_pos_of_not-dvd r apart)

-- the inverse by Fermat's theorem
pub fermat_inverse : (r a : ℕ) → IsPrime r → 0 < a % r → (a * a ^ (r - 2)) % r ≡ 1
fermat_inverse r a prime h =
    let above : 1 < r = prime.above_one in
    let e : r - 1 ≡ suc (r - 2) = omega arith in
    ap (λ (z : ℕ). z % r) (mul_comm a (a ^ (r - 2)) ∙ sym (pow-suc a (r - 2)) ∙ ap (λ (z : ℕ). a ^ z) (sym e)) ∙ fermat_remainder r a prime h
