-- What a function makes of a list is what it makes of its groups, joined, in another order.
use Rattle.std.proofs.Common.{◌≡◌, ℕ, zero, suc, ◌≤◌, Bool, true, false, cond, not, List, [], ◌∷◌, ◌++◌, Option, Some, None, refl, sym, ap, ◌∙◌, subst, filter, length, arith}
use Rattle.std.specs.List.{flat_map, filter_map, cons_option}
use Rattle.std.specs.List.Sorted.{IsPermutation}
use Rattle.std.proofs.lemmas.List.Sorted.{IsPermutation-refl, IsPermutation-cons, IsPermutation-trans, IsPermutation-append_right, IsPermutation-sym, IsPermutation-middle}
use Rattle.star_lists.specs.FirstOnes.{first_ones}
use Rattle.star_lists.proofs.Elements.{filter_fewer}

module _ {X : Type 0} (same : X → X → Bool) (itself : (x : X) → same x x ≡ true) (turns : (x y : X) → same x y ≡ same y x) (alike : (x y z : X) → same x y ≡ true → same x z ≡ same y z) where
  -- the elements of other groups than x's
  abbrev others : X → List X → List X
  others x xs = filter (λ y. not (same x y)) xs

  -- taking two groups away, in either order
  swapped : (x y : X) (zs : List X) → others x (others y zs) ≡ others y (others x zs)
  swapped x y [] = refl
  swapped x y (z ∷ zs) =
      elim (same y z) as (λ b. same y z ≡ b → others x (cond (not b) (z ∷ others y zs) (others y zs)) ≡ others y (cond (not (same x z)) (z ∷ others x zs) (others x zs))) [
        | true ↦ λ yz. elim (same x z) as (λ a. others x (others y zs) ≡ others y (cond (not a) (z ∷ others x zs) (others x zs))) [
          | true ↦ swapped x y zs
          | false ↦ swapped x y zs ∙ ap (λ b. cond (not b) (z ∷ others y (others x zs)) (others y (others x zs))) (sym yz)
        ]
        | false ↦ λ yz. elim (same x z) as (λ a. cond (not a) (z ∷ others x (others y zs)) (others x (others y zs)) ≡ others y (cond (not a) (z ∷ others x zs) (others x zs))) [
          | true ↦ swapped x y zs
          | false ↦ ap (λ l. z ∷ l) (swapped x y zs) ∙ ap (λ b. cond (not b) (z ∷ others y (others x zs)) (others y (others x zs))) (sym yz)
        ]
      ] refl

  -- a group that is taken away twice
  twice : (x : X) (zs : List X) → others x (others x zs) ≡ others x zs
  twice x [] = refl
  twice x (z ∷ zs) =
      elim (same x z) as (λ b. same x z ≡ b → others x (cond (not b) (z ∷ others x zs) (others x zs)) ≡ cond (not b) (z ∷ others x zs) (others x zs)) [
        | true ↦ λ _. twice x zs
        | false ↦ λ e. ap (λ b. cond (not b) (z ∷ others x (others x zs)) (others x (others x zs))) e ∙ ap (λ l. z ∷ l) (twice x zs)
      ] refl

  others_alike : (x y : X) → same x y ≡ true → (zs : List X) → others y zs ≡ others x zs
  others_alike x y e [] = refl
  others_alike x y e (z ∷ zs) = λ i. cond (not (sym (alike x y z e) i)) (z ∷ others_alike x y e zs i) (others_alike x y e zs i)

  -- the first ones of other groups
  first_others : (x : X) (ys : List X) → first_ones same (others x ys) ≡ others x (first_ones same ys)
  first_others x [] = refl
  first_others x (y ∷ ys) =
      elim (same x y) as (λ b. same x y ≡ b → first_ones same (cond (not b) (y ∷ others x ys) (others x ys)) ≡ cond (not b) (y ∷ others x (others y (first_ones same ys))) (others x (others y (first_ones same ys)))) [
        | true ↦ λ e. first_others x ys ∙ sym (ap (others x) (others_alike x y e (first_ones same ys)) ∙ twice x (first_ones same ys))
        | false ↦ λ e. ap (λ l. y ∷ others y l) (first_others x ys) ∙ ap (λ l. y ∷ l) (swapped y x (first_ones same ys))
      ] refl

  -- the group of y is not touched
  kept : (x y : X) → same x y ≡ false → (zs : List X) → filter (same y) (others x zs) ≡ filter (same y) zs
  kept x y apart [] = refl
  kept x y apart (z ∷ zs) =
      elim (same x z) as (λ b. same x z ≡ b → filter (same y) (cond (not b) (z ∷ others x zs) (others x zs)) ≡ cond (same y z) (z ∷ filter (same y) zs) (filter (same y) zs)) [
        | true ↦ λ xz. kept x y apart zs ∙ ap (λ b. cond b (z ∷ filter (same y) zs) (filter (same y) zs)) (sym (turns y z ∙ sym (alike x z y xz) ∙ apart))
        | false ↦ λ xz. ap (λ l. cond (same y z) (z ∷ l) l) (kept x y apart zs)
      ] refl

  module _ {Y : Type 0} (f : X → Option Y) where
    -- what f makes of the groups that these begin
    abbrev pub joined : List X → List X → List Y
    joined all ys = flat_map (λ y. filter_map f (filter (same y) all)) ys

    both_halves : (x : X) (zs : List X) → IsPermutation (filter_map f zs) (filter_map f (filter (same x) zs) ++ filter_map f (others x zs))
    both_halves x [] = IsPermutation-refl []
    both_halves x (z ∷ zs) =
        let yes = filter_map f (filter (same x) zs) in
        let no = filter_map f (others x zs) in
        let rest : IsPermutation (filter_map f zs) (yes ++ no) = both_halves x zs in
        elim (same x z) as (λ b. IsPermutation (cons_option (f z) (filter_map f zs)) (filter_map f (cond b (z ∷ filter (same x) zs) (filter (same x) zs)) ++ filter_map f (cond (not b) (z ∷ others x zs) (others x zs)))) [
          | true ↦ elim (f z) as (λ o. IsPermutation (cons_option o (filter_map f zs)) (cons_option o yes ++ no)) [
            | None ↦ rest
            | Some y ↦ IsPermutation-cons y _ _ rest
          ]
          | false ↦ elim (f z) as (λ o. IsPermutation (cons_option o (filter_map f zs)) (yes ++ cons_option o no)) [
            | None ↦ rest
            | Some y ↦ IsPermutation-trans _ _ _ (IsPermutation-cons y _ _ rest) (IsPermutation-sym _ _ (IsPermutation-middle yes y no))
          ]
        ]

    joined_others : (x : X) (zs ys : List X) → joined (x ∷ zs) (others x ys) ≡ joined (others x zs) (others x ys)
    joined_others x zs [] = refl
    joined_others x zs (y ∷ ys) =
        elim (same x y) as (λ b. same x y ≡ b → joined (x ∷ zs) (cond (not b) (y ∷ others x ys) (others x ys)) ≡ joined (others x zs) (cond (not b) (y ∷ others x ys) (others x ys))) [
          | true ↦ λ _. joined_others x zs ys
          | false ↦ λ e.
              let one : filter (same y) (x ∷ zs) ≡ filter (same y) (others x zs) = ap (λ b. cond b (x ∷ filter (same y) zs) (filter (same y) zs)) (turns y x ∙ e) ∙ sym (kept x y e zs) in
              λ i. filter_map f (one i) ++ joined_others x zs ys i
        ] refl

    parts : (n : ℕ) (xs : List X) → length xs ≤ n → IsPermutation (filter_map f xs) (joined xs (first_ones same xs))
    parts n [] h = IsPermutation-refl []
    parts zero (x ∷ xs) h = absurd (omega arith)
    parts (suc n) (x ∷ xs) h =
        let rest = others x xs in
        let deeper : IsPermutation (filter_map f rest) (joined rest (first_ones same rest)) = parts n rest (omega (arith, filter_fewer (λ y. not (same x y)) xs)) in
        let none : filter_map f (others x (x ∷ xs)) ≡ filter_map f rest = ap (λ b. filter_map f (cond (not b) (x ∷ rest) rest)) (itself x) in
        let split : IsPermutation (filter_map f (x ∷ xs)) (filter_map f (filter (same x) (x ∷ xs)) ++ filter_map f rest) = subst (λ l. IsPermutation (filter_map f (x ∷ xs)) (filter_map f (filter (same x) (x ∷ xs)) ++ l)) none (both_halves x (x ∷ xs)) in
        let same_rest : joined rest (first_ones same rest) ≡ joined (x ∷ xs) (others x (first_ones same xs)) = ap (joined rest) (first_others x xs) ∙ sym (joined_others x xs (first_ones same xs)) in
        let all : IsPermutation (filter_map f (x ∷ xs)) (filter_map f (filter (same x) (x ∷ xs)) ++ joined rest (first_ones same rest)) = IsPermutation-trans _ _ _ split (IsPermutation-append_right (filter_map f (filter (same x) (x ∷ xs))) _ _ deeper) in
        subst (λ l. IsPermutation (filter_map f (x ∷ xs)) (filter_map f (filter (same x) (x ∷ xs)) ++ l)) same_rest all

    pub groups_joined : (xs : List X) → IsPermutation (filter_map f xs) (joined xs (first_ones same xs))
    groups_joined xs = parts (length xs) xs (omega arith)
