-- A prime that divides a product divides a factor.
use Rattle.std.proofs.Common.{◌≡◌, ℕ, zero, suc, ◌+◌, ◌-◌, ◌*◌, ◌/◌, ◌%◌, ◌<◌, ◌≤◌, sym, ap, ◌∙◌, subst, inl, inr, arith}
use Rattle.std.proofs.Math.Nat.{add-zero, add-mod, mod-mod, zero-mod, one-mul, eq-zero-or-pos, dvd_of_mod-eq-zero, add-mul-mod_self_left, mul-mod_right, div-add-mod, mul_comm, mul-suc}
use Rattle.std.proofs.lemmas.Nat.{mul-mod_first}
use Rattle.field61.specs.Prime.{IsPrime}

-- what holds of n, and with any n of r % n, holds of 1, if r is prime and n lies between
pub descent : (r : ℕ) → IsPrime r → (P : ℕ → Type 0) → ((n : ℕ) → P n → P (r % n)) → (fuel n : ℕ) → n ≤ fuel → 0 < n → n < r → P n → P 1
descent r prime P step zero n le pos lt h = absurd (omega arith)
descent r prime P step (suc fuel) n le pos lt h =
    elim (eq-zero-or-pos (r % n)) [
      | inl e ↦ elim (prime.divisors n (dvd_of_mod-eq-zero n e)) [
        | inl one ↦ subst P one h
        | inr same ↦ absurd (omega arith)
      ]
      | inr p ↦ descent r prime P step fuel (r % n) (omega arith) p (omega arith) (step n h)
    ]

-- a multiple of r adds nothing
pub add_multiple : (x y r : ℕ) → y % r ≡ 0 → (x + y) % r ≡ x % r
add_multiple x y r h =
    add-mod x y r ∙ ap (λ (z : ℕ). (x % r + z) % r) h ∙ ap (λ (z : ℕ). z % r) (add-zero (x % r)) ∙ mod-mod x r

-- a product is a multiple if its first factor is
pub multiple_first : (x y r : ℕ) → x % r ≡ 0 → (x * y) % r ≡ 0
multiple_first x y r h = sym (mul-mod_first x y r) ∙ ap (λ (z : ℕ). (z * y) % r) h ∙ ap (λ (z : ℕ). z % r) (let e : 0 * y ≡ 0 = omega arith in e) ∙ zero-mod r

-- and if its second is
multiple_second : (x y r : ℕ) → y % r ≡ 0 → (x * y) % r ≡ 0
multiple_second x y r h = ap (λ (z : ℕ). z % r) (mul_comm x y) ∙ multiple_first y x r h

-- a prime that divides a product and not its first factor divides the second
pub euclid : (r a b : ℕ) → IsPrime r → 0 < a % r → (a * b) % r ≡ 0 → b % r ≡ 0
euclid r a b prime pos h =
    let above : 1 < r = prime.above_one in
    let below : a % r < r = omega arith in
    let last = descent r prime (λ n. (n * b) % r ≡ 0) step (a % r) (a % r) (omega arith) pos below (mul-mod_first a b r ∙ h) in
    ap (λ (z : ℕ). z % r) (sym (one-mul b)) ∙ last
  where
    step : (n : ℕ) → (n * b) % r ≡ 0 → (r % n * b) % r ≡ 0
    step n g =
        let whole : r % n * b + (r / n) * (n * b) ≡ r * b = split n in
        sym (add_multiple (r % n * b) ((r / n) * (n * b)) r (multiple_second (r / n) (n * b) r g))
        ∙ ap (λ (z : ℕ). z % r) whole ∙ mul-mod_right r b
      where
        split : (n : ℕ) → r % n * b + (r / n) * (n * b) ≡ r * b
        split n = let e = ap (λ (z : ℕ). z * b) (div-add-mod r n) in omega (arith, e)

-- equal remainders stay equal if a summand is subtracted
pub add_mod_cancels : (x y c r : ℕ) → 0 < r → (x + c) % r ≡ (y + c) % r → x % r ≡ y % r
add_mod_cancels x y c r pos h = sym (past x) ∙ add-mod (x + c) (r * suc (c / r) - c) r ∙ ap (λ (z : ℕ). (z + (r * suc (c / r) - c) % r) % r) h ∙ sym (add-mod (y + c) (r * suc (c / r) - c) r) ∙ past y
  where
    past : (x : ℕ) → (x + c + (r * suc (c / r) - c)) % r ≡ x % r
    past x =
        let e = div-add-mod c r in
        let below : c % r < r = omega arith in
        let whole : x + c + (r * suc (c / r) - c) ≡ x + r * suc (c / r) = omega (arith, e, mul-suc r (c / r)) in
        ap (λ (z : ℕ). z % r) whole ∙ add-mul-mod_self_left x r (suc (c / r))
