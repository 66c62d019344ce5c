-- Powers modulo a number by square and multiply, so that a large exponent computes.
use Rattle.std.proofs.Common.{◌≡◌, ℕ, zero, suc, ◌+◌, ◌*◌, ◌/◌, ◌%◌, ◌^◌, ◌<◌, sym, ap, ◌∙◌, arith}
use Rattle.std.proofs.Math.Nat.{pow-zero, pow-suc}
use Rattle.std.proofs.lemmas.Nat.{mul-mod_first, pow-mod, pow-add, mul-pow}

-- the power of base to e modulo m, for an e below 2 ^ bits
abbrev pub computed_power : ℕ → ℕ → ℕ → ℕ → ℕ
computed_power m zero base e = 1 % m
computed_power m (suc bits) base e = (computed_power m bits (base * base % m) (e / 2) * base ^ (e % 2)) % m

-- it is the remainder of the power
pub computed_power_is_power : (m bits base e : ℕ) → e < 2 ^ bits → computed_power m bits base e ≡ base ^ e % m
computed_power_is_power m zero base e h =
    let none : e ≡ 0 = omega arith in
    sym (ap (λ (z : ℕ). base ^ z % m) none ∙ ap (λ (z : ℕ). z % m) (pow-zero base))
computed_power_is_power m (suc bits) base e h =
    let less : e / 2 < 2 ^ bits = omega (arith, pow-suc 2 bits) in
    let before = computed_power_is_power m bits (base * base % m) (e / 2) less in
    let whole : e / 2 + e / 2 + e % 2 ≡ e = omega arith in
    ap (λ (z : ℕ). (z * base ^ (e % 2)) % m) (before ∙ pow-mod (base * base) (e / 2) m)
    ∙ mul-mod_first ((base * base) ^ (e / 2)) (base ^ (e % 2)) m
    ∙ ap (λ (z : ℕ). z % m) (ap (λ (z : ℕ). z * base ^ (e % 2)) (mul-pow base base (e / 2) ∙ sym (pow-add base (e / 2) (e / 2)))
    ∙ sym (pow-add base (e / 2 + e / 2) (e % 2)) ∙ ap (λ (z : ℕ). base ^ z) whole)
