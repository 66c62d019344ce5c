-- Counts of points.
use Rattle.std.proofs.Common.{ℕ, zero, suc, ◌+◌, ◌<◌, ◌≤◌, ◌≡◌, ◌∙◌, sym, ap, refl, arith, add_assoc, Bool, true, false, cond, eqb, List, [], ◌∷◌, length, get_or, take}
use mathlib.Core.Bool.{not}
use Rattle.poly61.specs.Poly.{value}
use Rattle.poly61.specs.Counts.{count_to}
use Rattle.poly61.proofs.Lists.{coefficient_of}
use Rattle.gao_decoder.specs.Decoding.{agreement}
use Rattle.gao_decoder.specs.Choosing.{nonzero_count}

-- the agreement as a count of indices
pub agreement-count_to : (f xs ys : List ℕ) → length xs ≡ length ys → agreement f xs ys ≡ count_to (length xs) (λ i. eqb (value f (coefficient_of xs i)) (coefficient_of ys i))
agreement-count_to f [] [] e = refl
agreement-count_to f [] (y ∷ ys) e = absurd (omega arith)
agreement-count_to f (x ∷ xs) [] e = absurd (omega arith)
agreement-count_to f (x ∷ xs) (y ∷ ys) e = ap (λ n. cond (eqb (value f x) y) 1 0 + n) (agreement-count_to f xs ys (omega arith))

-- one point more
pub agreement-more : (f xs ys : List ℕ) (i : ℕ) → i < length xs → length xs ≡ length ys → agreement f (take (i + 1) xs) (take (i + 1) ys) ≡ agreement f (take i xs) (take i ys) + cond (eqb (value f (get_or xs i 0)) (get_or ys i 0)) 1 0
agreement-more f [] ys i h e = absurd (omega arith)
agreement-more f (x ∷ xs) [] i h e = absurd (omega arith)
agreement-more f (x ∷ xs) (y ∷ ys) zero h e = omega arith
agreement-more f (x ∷ xs) (y ∷ ys) (suc i) h e =
    let b : ℕ = cond (eqb (value f x) y) 1 0 in
    let t : ℕ = cond (eqb (value f (get_or xs i 0)) (get_or ys i 0)) 1 0 in
    let ih : agreement f (take (i + 1) xs) (take (i + 1) ys) ≡ agreement f (take i xs) (take i ys) + t = agreement-more f xs ys i (omega arith) (omega arith) in
    ap (λ n. agreement f (take n (x ∷ xs)) (take n (y ∷ ys))) {x = suc i + 1} {y = suc (i + 1)} (omega arith) ∙ ap (λ n. b + n) ih ∙ sym (add_assoc b (agreement f (take i xs) (take i ys)) t)

-- one index more
pub count_to-push : (n : ℕ) (p : ℕ → Bool) → count_to (n + 1) p ≡ count_to n p + cond (p n) 1 0
count_to-push zero p = omega arith
count_to-push (suc n) p = ap (λ m. count_to m p) {x = suc n + 1} {y = suc (n + 1)} (omega arith) ∙ ap (λ m. cond (p 0) 1 0 + m) (count_to-push n (λ i. p (suc i))) ∙ omega arith

pub count_to-push_le : (n : ℕ) (p : ℕ → Bool) → count_to (n + 1) p ≤ count_to n p + 1
count_to-push_le n p = rw (count_to-push n p) (step (p n))
  where
    step : (b : Bool) → count_to n p + cond b 1 0 ≤ count_to n p + 1
    step true = omega arith
    step false = omega arith

pub nonzero_count-count_to : (w xs : List ℕ) → nonzero_count w xs ≡ count_to (length xs) (λ j. not (eqb (value w (get_or xs j 0)) 0))
nonzero_count-count_to w [] = refl
nonzero_count-count_to w (x ∷ xs) = ap (λ n. cond (eqb (value w x) 0) 0 1 + n) (nonzero_count-count_to w xs) ∙ ap (λ m. m + count_to (length xs) (λ j. not (eqb (value w (get_or xs j 0)) 0))) (turn (eqb (value w x) 0))
  where
    turn : (b : Bool) → cond {A = ℕ} b 0 1 ≡ cond {A = ℕ} (not b) 1 0
    turn true = refl
    turn false = refl

-- polynomials with the same values agree alike
pub agreement_same : (f g xs ys : List ℕ) → ((x : ℕ) → value f x ≡ value g x) → agreement f xs ys ≡ agreement g xs ys
agreement_same f g [] ys e = refl
agreement_same f g (x ∷ xs) [] e = refl
agreement_same f g (x ∷ xs) (y ∷ ys) e = ap (λ v. cond (eqb v y) 1 0 + agreement f xs ys) (e x) ∙ ap (λ n. cond (eqb (value g x) y) 1 0 + n) (agreement_same f g xs ys e)
