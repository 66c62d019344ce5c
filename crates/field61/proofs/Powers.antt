-- Powers, and their remainders.
use Rattle.std.proofs.Common.{◌≡◌, ℕ, zero, suc, ◌+◌, ◌*◌, ◌/◌, ◌%◌, ◌^◌, ◌<◌, refl, sym, ap, ◌∙◌, arith}
use Rattle.std.proofs.Math.Nat.{pow-zero, pow-suc, mul-one, one-mul, mul-suc, mod-eq_of_lt, div-add-mod}
use Rattle.std.proofs.lemmas.Nat.{mul-mod_first, mul-mod_second, pow-mod, pow-add, mul-pow}

-- the powers of 1
one-pow : (n : ℕ) → 1 ^ n ≡ 1
one-pow zero = refl
one-pow (suc n) = pow-suc 1 n ∙ mul-one (1 ^ n) ∙ one-pow n

-- a power of a power
pub pow-mul : (b i j : ℕ) → b ^ (i * j) ≡ (b ^ i) ^ j
pow-mul b i zero = ap (λ (z : ℕ). b ^ z) (let e : i * 0 ≡ 0 = omega arith in e) ∙ pow-zero b ∙ sym (pow-zero (b ^ i))
pow-mul b i (suc j) =
    ap (λ (z : ℕ). b ^ z) (mul-suc i j) ∙ pow-add b (i * j) i ∙ ap (λ (z : ℕ). z * b ^ i) (pow-mul b i j)
    ∙ sym (pow-suc (b ^ i) j)

-- a power that is 1 modulo m may be cut off
pub pow_reduced : (b m i j : ℕ) → 1 < m → b ^ i % m ≡ 1 → b ^ j % m ≡ b ^ (j % i) % m
pow_reduced b m i j above h =
    let parts : b ^ j ≡ (b ^ i) ^ (j / i) * b ^ (j % i) =
    ap (λ (z : ℕ). b ^ z) (sym (div-add-mod j i)) ∙ pow-add b (i * (j / i)) (j % i) ∙ ap (λ (z : ℕ). z * b ^ (j % i)) (pow-mul b i (j / i)) in
    let ones : (b ^ i) ^ (j / i) % m ≡ 1 =
    sym (pow-mod (b ^ i) (j / i) m) ∙ ap (λ (z : ℕ). z ^ (j / i) % m) h ∙ ap (λ (z : ℕ). z % m) (one-pow (j / i)) ∙ mod-eq_of_lt above in
    ap (λ (z : ℕ). z % m) parts ∙ sym (mul-mod_first ((b ^ i) ^ (j / i)) (b ^ (j % i)) m)
    ∙ ap (λ (z : ℕ). (z * b ^ (j % i)) % m) ones ∙ ap (λ (z : ℕ). z % m) (one-mul (b ^ (j % i)))

-- the base may be cut to its remainder
power_of_remainder : (a b e m : ℕ) → (a * (b % m) ^ e) % m ≡ (a * b ^ e) % m
power_of_remainder a b e m =
    sym (mul-mod_second a ((b % m) ^ e) m) ∙ ap (λ (z : ℕ). (a * z) % m) (pow-mod b e m) ∙ mul-mod_second a (b ^ e) m

-- a power of a square
squared : (b k : ℕ) → (b * b) ^ k ≡ b ^ (k + k)
squared b k = mul-pow b b k ∙ sym (pow-add b k k)

-- A step of square and multiply keeps the product of the power so far and what is left. An even exponent is halved
-- if the base is squared,
pub halved_even : (power square rest m : ℕ) → rest % 2 ≡ 0 → (power * (square * square % m) ^ (rest / 2)) % m ≡ (power * square ^ rest) % m
halved_even power square rest m even =
    let whole : rest / 2 + rest / 2 ≡ rest = omega arith in
    power_of_remainder power (square * square) (rest / 2) m
    ∙ ap (λ (z : ℕ). (power * z) % m) (squared square (rest / 2) ∙ ap (λ (z : ℕ). square ^ z) whole)

-- and an odd one too, if one factor goes to the power so far
pub halved_odd : (power square rest m : ℕ) → rest % 2 ≡ 1 → ((power * square % m) * (square * square % m) ^ (rest / 2)) % m ≡ (power * square ^ rest) % m
halved_odd power square rest m odd =
    let whole : suc (rest / 2 + rest / 2) ≡ rest = omega arith in
    let left : square ^ rest ≡ square ^ (rest / 2 + rest / 2) * square = ap (λ (z : ℕ). square ^ z) (sym whole) ∙ pow-suc square (rest / 2 + rest / 2) in
    let turned : (power * square) * square ^ (rest / 2 + rest / 2) ≡ power * square ^ rest = omega (arith, ap (λ (z : ℕ). power * z) left) in
    power_of_remainder (power * square % m) (square * square) (rest / 2) m
    ∙ mul-mod_first (power * square) ((square * square) ^ (rest / 2)) m
    ∙ ap (λ (z : ℕ). ((power * square) * z) % m) (squared square (rest / 2))
    ∙ ap (λ (z : ℕ). z % m) turned
