-- Numbers spelled one after the other.
use Rattle.std.proofs.Common.{◌≡◌, ℕ, ◌-◌, ◌*◌, List, [], ◌∷◌, ◌++◌, length, take, replicate, refl, ap₂, arith}
use Rattle.std.proofs.lemmas.List.{take_all}
use Rattle.star_vectors.specs.Vectors.{filled_up, spelled}

-- each number takes 8 bytes
length-spelled : (numbers : List ℕ) → length (spelled numbers) ≡ 8 * length numbers
length-spelled [] = refl
length-spelled (n ∷ numbers) = omega (arith, length-spelled numbers)

-- all the numbers over zeros
pub spelled_all : (numbers : List ℕ) (i : ℕ) → i ≡ length numbers → spelled (take i numbers) ++ replicate (32 - 8 * i) 0 ≡ filled_up (spelled numbers)
spelled_all numbers i end =
    ap₂ (λ (xs : List ℕ) (n : ℕ). spelled xs ++ replicate n 0) (take_all i numbers (omega arith)) (omega (arith, length-spelled numbers))
