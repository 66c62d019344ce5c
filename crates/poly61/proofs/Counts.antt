-- How many indices pass a test.
use Rattle.std.proofs.Common.{ℕ, zero, suc, ◌+◌, ◌<◌, ◌≤◌, ◌≡◌, refl, arith, Bool, true, false, cond}
use mathlib.Core.Bool.{◌&&◌, not}
use Rattle.std.proofs.lemmas.Bool.{false≢true}
use Rattle.poly61.specs.Counts.{count_to}

pub count_to-le : (n : ℕ) (p : ℕ → Bool) → count_to n p ≤ n
count_to-le zero p = omega arith
count_to-le (suc n) p = let ih : count_to n (λ i. p (suc i)) ≤ n = count_to-le n (λ i. p (suc i)) in step (p 0) (count_to n (λ i. p (suc i))) n ih
  where
    step : (b : Bool) (m n : ℕ) → m ≤ n → cond b 1 0 + m ≤ suc n
    step true m n h = omega arith
    step false m n h = omega arith

pub count_to-grows : (n : ℕ) (p q : ℕ → Bool) → ((i : ℕ) → i < n → p i ≡ true → q i ≡ true) → count_to n p ≤ count_to n q
count_to-grows zero p q h = omega arith
count_to-grows (suc n) p q h = step (p 0) (q 0) _ _ (h 0 (omega arith)) (count_to-grows n (λ i. p (suc i)) (λ i. q (suc i)) (λ i l. h (suc i) (omega arith)))
  where
    step : (b c : Bool) (m n : ℕ) → (b ≡ true → c ≡ true) → m ≤ n → cond b 1 0 + m ≤ cond c 1 0 + n
    step true true m n e h = omega arith
    step true false m n e h = absurd (false≢true (e refl))
    step false true m n e h = omega arith
    step false false m n e h = omega arith

pub count_to-all : (n : ℕ) (p : ℕ → Bool) → ((i : ℕ) → i < n → p i ≡ true) → n ≤ count_to n p
count_to-all zero p h = omega arith
count_to-all (suc n) p h = let ih : n ≤ count_to n (λ i. p (suc i)) = count_to-all n (λ i. p (suc i)) (λ i l. h (suc i) (omega arith)) in
    rw (h 0 (omega arith)) (omega arith)

pub count_to-both : (n : ℕ) (p q : ℕ → Bool) → count_to n p + count_to n q ≤ n + count_to n (λ i. p i && q i)
count_to-both zero p q = omega arith
count_to-both (suc n) p q = step (p 0) (q 0) _ _ _ _ (count_to-both n (λ i. p (suc i)) (λ i. q (suc i)))
  where
    step : (b c : Bool) (k m n r : ℕ) → k + m ≤ n + r → (cond b 1 0 + k) + (cond c 1 0 + m) ≤ suc n + (cond (b && c) 1 0 + r)
    step true true k m n r h = omega arith
    step true false k m n r h = omega arith
    step false true k m n r h = omega arith
    step false false k m n r h = omega arith

pub count_to-not : (n : ℕ) (p : ℕ → Bool) → count_to n p + count_to n (λ i. not (p i)) ≡ n
count_to-not zero p = omega arith
count_to-not (suc n) p = step (p 0) _ _ (count_to-not n (λ i. p (suc i)))
  where
    step : (b : Bool) (k m : ℕ) → k + m ≡ n → (cond b 1 0 + k) + (cond (not b) 1 0 + m) ≡ suc n
    step true k m h = omega arith
    step false k m h = omega arith
