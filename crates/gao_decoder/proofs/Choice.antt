-- The choice of points at which a polynomial is not 0.
use Rattle.std.proofs.Common.{ℕ, ◌+◌, ◌<◌, ◌≤◌, ◌≡◌, ◌∙◌, sym, ap, refl, arith, true, cond, eqb, inl, inr, ◌⊎◌, List, length, get_or}
use mathlib.Core.Bool.{not}
use borrow.Author.Count.{below_more}
use Rattle.std.proofs.lemmas.Bool.{cases_lt, cases_eq, eqb-true, eq-eqb}
use Rattle.field61.specs.Field.{AreElements}
use Rattle.poly61.specs.Poly.{value, HasDegreeBelow, IsLinearMultiple, AreDistinct}
use Rattle.poly61.specs.Counts.{count_to}
use Rattle.poly61.proofs.Elements.{one_is_not_zero}
use Rattle.poly61.proofs.Places.{value_to}
use Rattle.poly61.proofs.Counts.{count_to-grows}
use Rattle.poly61.proofs.Roots.{same_from_agreement}
use Rattle.poly61.proofs.Lists.{coefficient_of, AreElements-bounded, value-places}
use Rattle.poly61.proofs.Values.{value-one, linear_root, linear_nonzero}
use Rattle.gao_decoder.specs.Choosing.{nonzero_count, IsChosen}
use Rattle.gao_decoder.proofs.Counting.{count_to-push, count_to-push_le, nonzero_count-count_to}

pub chosen_none : (xs ys w candidate work : List ℕ) (k : ℕ) → get_or work 0 0 ≡ 1 → HasDegreeBelow work 1 → IsChosen xs ys w candidate work 0 0 k
chosen_none xs ys w candidate work k one low = record {
  passes = λ j h. absurd (omega arith);
  nonzero = λ j h. absurd (omega arith);
  ahead = λ j _ _ z. one_is_not_zero _ (value-one work (get_or xs j 0) one low) z;
  many = omega arith;
  all = λ _. omega arith;
}

-- a point is passed over: w is zero there, or enough are chosen
pub chosen_past : (xs ys w candidate work : List ℕ) (i chosen k : ℕ) → i < length xs → (chosen < k → value w (get_or xs i 0) ≡ 0) → IsChosen xs ys w candidate work i chosen k → IsChosen xs ys w candidate work (i + 1) chosen k
chosen_past xs ys w candidate work i chosen k l z h = record {
  passes = below_more (λ j. value work (get_or xs j 0) ≡ 0 → value candidate (get_or xs j 0) ≡ get_or ys j 0) i h.passes (λ e. absurd (h.ahead i (omega arith) l e));
  nonzero = below_more (λ j. value work (get_or xs j 0) ≡ 0 → value w (get_or xs j 0) ≡ 0 → ⊥) i h.nonzero (λ e. absurd (h.ahead i (omega arith) l e));
  ahead = λ j a b. h.ahead j (omega arith) b;
  many = omega (arith, h.many, count_to-push i (λ j. eqb (value work (get_or xs j 0)) 0));
  all = λ few. let e : count_to (i + 1) (λ j. not (eqb (value w (get_or xs j 0)) 0)) ≡ count_to i (λ j. not (eqb (value w (get_or xs j 0)) 0)) + 0 =
      count_to-push i (λ j. not (eqb (value w (get_or xs j 0)) 0)) ∙ ap (λ b. count_to i (λ j. not (eqb (value w (get_or xs j 0)) 0)) + cond (not b) 1 0) (eq-eqb _ 0 (z few)) in omega (arith, e, h.all few);
}

-- a point is chosen
pub chosen_more : (xs ys w candidate work new_candidate new_work : List ℕ) (i chosen k : ℕ) → i < length xs → AreDistinct xs → AreElements xs → chosen < k → (value w (get_or xs i 0) ≡ 0 → ⊥) →
    value new_candidate (get_or xs i 0) ≡ get_or ys i 0 → ((z : ℕ) → value work z ≡ 0 → value new_candidate z ≡ value candidate z) → IsLinearMultiple new_work work (get_or xs i 0) 0 →
    IsChosen xs ys w candidate work i chosen k → IsChosen xs ys w new_candidate new_work (i + 1) (chosen + 1) k
chosen_more xs ys w candidate work new_candidate new_work i chosen k l distinct elements few w_nonzero here keeps multiple h = record {
  passes = below_more (λ j. value new_work (get_or xs j 0) ≡ 0 → value new_candidate (get_or xs j 0) ≡ get_or ys j 0) i (λ j b e. let o = old j b e in keeps (get_or xs j 0) o ∙ h.passes j b o) (λ _. here);
  nonzero = below_more (λ j. value new_work (get_or xs j 0) ≡ 0 → value w (get_or xs j 0) ≡ 0 → ⊥) i (λ j b e. h.nonzero j b (old j b e)) (λ _. w_nonzero);
  ahead = λ j a b. linear_nonzero new_work work (get_or xs i 0) (get_or xs j 0) multiple (AreElements-bounded xs elements i) (AreElements-bounded xs elements j) (λ e. distinct i j (omega arith) b (sym e)) (h.ahead j (omega arith) b);
  many = let new : count_to (i + 1) (λ j. eqb (value new_work (get_or xs j 0)) 0) ≡ count_to i (λ j. eqb (value new_work (get_or xs j 0)) 0) + 1 =
      count_to-push i (λ j. eqb (value new_work (get_or xs j 0)) 0) ∙ ap (λ b. count_to i (λ j. eqb (value new_work (get_or xs j 0)) 0) + cond b 1 0) (eq-eqb _ 0 (linear_root new_work work (get_or xs i 0) (get_or xs i 0) multiple (inl refl))) in
      let kept : count_to i (λ j. eqb (value work (get_or xs j 0)) 0) ≤ count_to i (λ j. eqb (value new_work (get_or xs j 0)) 0) =
      count_to-grows i _ _ (λ j _ t. eq-eqb _ 0 (linear_root new_work work (get_or xs i 0) (get_or xs j 0) multiple (inr (eqb-true _ 0 t)))) in omega (arith, new, kept, h.many);
  all = λ _. omega (arith, h.all few, count_to-push_le i (λ j. not (eqb (value w (get_or xs j 0)) 0)));
}
  where
    old : (j : ℕ) → j < i → value new_work (get_or xs j 0) ≡ 0 → value work (get_or xs j 0) ≡ 0
    old j b e = elim (cases_eq (value work (get_or xs j 0)) 0) [
      | inl q ↦ q
      | inr n ↦ absurd (linear_nonzero new_work work (get_or xs i 0) (get_or xs j 0) multiple (AreElements-bounded xs elements i) (AreElements-bounded xs elements j) (λ q. distinct j i b l q) n e)
    ]

-- a polynomial that passes through every point off the roots of w is the candidate
pub chosen_only : (xs ys w candidate work f : List ℕ) (chosen k : ℕ) → AreDistinct xs → AreElements xs → k ≤ nonzero_count w xs → chosen ≤ k → HasDegreeBelow candidate k → AreElements candidate →
    IsChosen xs ys w candidate work (length xs) chosen k → AreElements f → HasDegreeBelow f k → ((i : ℕ) → i < length xs → (value w (get_or xs i 0) ≡ 0 → ⊥) → value f (get_or xs i 0) ≡ get_or ys i 0) → (i : ℕ) → get_or candidate i 0 ≡ get_or f i 0
chosen_only xs ys w candidate work f chosen k distinct elements many within candidate_below candidate_elements h f_elements f_below passes i = by (cases_lt i k)
  where
    n : ℕ
    n = length xs

    full : k ≤ chosen
    full = elim (cases_lt chosen k) [ inl l ↦ absurd (omega (arith, h.all l, nonzero_count-count_to w xs)) | inr q ↦ q ]

    same : (j : ℕ) → j < length xs → eqb (value work (get_or xs j 0)) 0 ≡ true → eqb (value_to k (coefficient_of candidate) (get_or xs j 0)) (value_to k (coefficient_of f) (get_or xs j 0)) ≡ true
    same j l t = let z = eqb-true _ 0 t in eq-eqb _ _ (sym (value-places k candidate (get_or xs j 0) candidate_below) ∙ h.passes j l z ∙ sym (passes j l (h.nonzero j l z)) ∙ value-places k f (get_or xs j 0) f_below)

    agree : k ≤ count_to (length xs) (λ j. eqb (value_to k (coefficient_of candidate) (get_or xs j 0)) (value_to k (coefficient_of f) (get_or xs j 0)))
    agree = let m : count_to (length xs) (λ j. eqb (value work (get_or xs j 0)) 0) ≤ count_to (length xs) (λ j. eqb (value_to k (coefficient_of candidate) (get_or xs j 0)) (value_to k (coefficient_of f) (get_or xs j 0))) = count_to-grows (length xs) _ _ same in
        let full' : k ≤ chosen = full in omega (arith, h.many)

    by : (i < k) ⊎ (k ≤ i) → get_or candidate i 0 ≡ get_or f i 0
    by (inl l) = same_from_agreement (length xs) k (coefficient_of xs) (coefficient_of candidate) (coefficient_of f) distinct (AreElements-bounded xs elements) (AreElements-bounded candidate candidate_elements) (AreElements-bounded f f_elements) agree i l
    by (inr l) = candidate_below i l ∙ sym (f_below i l)
