-- Numbers that ascend strictly from a number on, by recursion.
use Rattle.std.proofs.Common.{◌≡◌, ℕ, zero, suc, ◌+◌, ◌<◌, List, [], ◌∷◌, length, slice_index, arith, subst}
use Rattle.std.specs.List.Sorted.{IsStrictlyIncreasing}

-- the first of the numbers is above this one, and each of the others above the one before it
abbrev pub AscendFrom : ℕ → List ℕ → Type 0
AscendFrom p [] = Unit {0}
AscendFrom p (x ∷ xs) = (p < x) × AscendFrom x xs

pub AscendFrom-increasing : (p : ℕ) (xs : List ℕ) → AscendFrom p xs → IsStrictlyIncreasing (p ∷ xs)
AscendFrom-increasing p [] ascend k within = absurd (omega arith)
AscendFrom-increasing p (x ∷ xs) ascend zero within = ascend.0
AscendFrom-increasing p (x ∷ xs) ascend (suc k) within =
    let more : suc (k + 1) ≡ suc k + 1 = omega arith in
    subst (λ (m : ℕ). slice_index (x ∷ xs) k < slice_index (p ∷ x ∷ xs) m) more (AscendFrom-increasing x xs ascend.1 k (omega arith))

pub increasing-AscendFrom : (p : ℕ) (xs : List ℕ) → IsStrictlyIncreasing (p ∷ xs) → AscendFrom p xs
increasing-AscendFrom p [] increases = tt
increasing-AscendFrom p (x ∷ xs) increases = (
  increases 0 (omega arith),
  increasing-AscendFrom x xs (λ k within.
      let more : suc k + 1 ≡ suc (k + 1) = omega arith in
      subst (λ (m : ℕ). slice_index (x ∷ xs) k < slice_index (p ∷ x ∷ xs) m) more (increases (suc k) (omega arith))),
)

-- each of them is above it
pub above-first : (p : ℕ) (xs : List ℕ) (i : ℕ) → AscendFrom p xs → i < length xs → p < slice_index xs i
above-first p [] i ascend within = absurd (omega arith)
above-first p (x ∷ xs) zero ascend within = ascend.0
above-first p (x ∷ xs) (suc i) ascend within = let later = above-first x xs i ascend.1 (omega arith) in omega (arith, later, ascend.0)

-- so each is below those behind it
pub ascend_apart : (p : ℕ) (xs : List ℕ) (i j : ℕ) → AscendFrom p xs → i < j → j < length xs → slice_index xs i < slice_index xs j
ascend_apart p [] i j ascend less within = absurd (omega arith)
ascend_apart p (x ∷ xs) i zero ascend less within = absurd (omega arith)
ascend_apart p (x ∷ xs) zero (suc j) ascend less within = above-first x xs j ascend.1 (omega arith)
ascend_apart p (x ∷ xs) (suc i) (suc j) ascend less within = ascend_apart x xs i j ascend.1 (omega arith) (omega arith)
