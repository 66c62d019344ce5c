-- The binomial theorem.
use Rattle.std.proofs.Common.{◌≡◌, ℕ, zero, suc, ◌+◌, ◌*◌, ◌^◌, ◌<◌, refl, sym, ap, ◌∙◌, arith}
use Rattle.std.proofs.Math.Nat.{pow-zero, pow-suc, one-mul}

-- the number of ways to choose k of n
abbrev pub choose : ℕ → ℕ → ℕ
choose n zero = 1
choose zero (suc k) = 0
choose (suc n) (suc k) = choose n k + choose n (suc k)

-- how the choices of one more are counted twice
pub choose_absorbs : (n k : ℕ) → suc k * choose (suc n) (suc k) ≡ suc n * choose n k
choose_absorbs zero zero = refl
choose_absorbs zero (suc k) = omega arith
choose_absorbs (suc n) zero = let before = choose_absorbs n zero in omega (arith, before)
choose_absorbs (suc n) (suc k) =
    let one = choose_absorbs n k in
    let two = choose_absorbs n (suc k) in
    omega (arith, one, two)

-- more can't be chosen than there are
choose_above : (n k : ℕ) → n < k → choose n k ≡ 0
choose_above n zero h = absurd (omega arith)
choose_above zero (suc k) h = refl
choose_above (suc n) (suc k) h =
    let one = choose_above n k (omega arith) in
    let two = choose_above n (suc k) (omega arith) in
    omega (arith, one, two)

-- all can be chosen in one way
pub choose_self : (n : ℕ) → choose n n ≡ 1
choose_self zero = refl
choose_self (suc n) = let one = choose_self n in let two = choose_above n (suc n) (omega arith) in omega (arith, one, two)

-- the sum of choose n i * a ^ i for i from 0 to k
abbrev pub partial_sum : ℕ → ℕ → ℕ → ℕ
partial_sum a n zero = 1
partial_sum a n (suc k) = partial_sum a n k + choose n (suc k) * a ^ suc k

-- Pascal's rule for the sums
partial_sum-suc : (a n k : ℕ) → partial_sum a (suc n) (suc k) ≡ partial_sum a n (suc k) + a * partial_sum a n k
partial_sum-suc a n zero = let e : a ^ 1 ≡ a = pow-suc a 0 ∙ ap (λ (z : ℕ). z * a) (pow-zero a) ∙ one-mul a in omega (arith, ap (λ (z : ℕ). choose n 1 * z) e, e)
partial_sum-suc a n (suc k) =
    let before = partial_sum-suc a n k in
    let power : a ^ suc (suc k) ≡ a ^ suc k * a = pow-suc a (suc k) in
    omega (arith, before, ap (λ (z : ℕ). choose n (suc k) * z) power)

-- the binomial theorem
pub binomial : (a n : ℕ) → partial_sum a n n ≡ suc a ^ n
binomial a zero = sym (pow-zero (suc a))
binomial a (suc n) =
    let step = partial_sum-suc a n n in
    let before = binomial a n in
    let none = ap (λ (z : ℕ). z * a ^ suc n) (choose_above n (suc n) (omega arith)) in
    let power = pow-suc (suc a) n in
    omega (arith, step, none, power, ap (λ (z : ℕ). suc a * z) before)
