-- The first ones of a list: no two of them are the same, and what one more element adds.
use Rattle.std.proofs.Common.{◌≡◌, ◌≤◌, Bool, true, false, cond, not, ◌||◌, List, [], ◌∷◌, ◌++◌, inl, inr, length, refl, sym, ap, ◌∙◌, filter, arith}
use Rattle.std.proofs.lemmas.List.Elements.{filter-append}
use Rattle.std.specs.List.{list_any}
use Rattle.std.specs.Prelude.{if◌then◌else◌}
use Rattle.star_lists.specs.FirstOnes.{first_ones}
use Rattle.star_lists.proofs.Elements.{In, from_filter, filter_fewer, none_filtered}

-- no element is the same as a later one
abbrev pub Apart : {X : Type 0} → (X → X → Bool) → List X → Type 0
Apart same [] = Unit {0}
Apart same (x ∷ xs) = (list_any (same x) xs ≡ false) × Apart same xs

apart_filtered : {X : Type 0} (same : X → X → Bool) (q : X → Bool) (xs : List X) → Apart same xs → Apart same (filter q xs)
apart_filtered same q [] h = tt
apart_filtered same q (x ∷ xs) h =
    elim (q x) as (λ b. Apart same (cond b (x ∷ filter q xs) (filter q xs))) [
      | true ↦ (none_filtered (same x) q xs h.0, apart_filtered same q xs h.1)
      | false ↦ apart_filtered same q xs h.1
    ]

none_like : {X : Type 0} (same : X → X → Bool) (x : X) (ys : List X) → list_any (same x) (filter (λ y. not (same x y)) ys) ≡ false
none_like same x [] = refl
none_like same x (y ∷ ys) =
    elim (same x y) as (λ b. same x y ≡ b → list_any (same x) (cond (not b) (y ∷ filter (λ y. not (same x y)) ys) (filter (λ y. not (same x y)) ys)) ≡ false) [
      | true ↦ λ e. none_like same x ys
      | false ↦ λ e i. e i || none_like same x ys i
    ] refl

-- no first one is the same as a later one
pub apart_firsts : {X : Type 0} (same : X → X → Bool) (xs : List X) → Apart same (first_ones same xs)
apart_firsts same [] = tt
apart_firsts same (x ∷ xs) =
    (none_like same x (first_ones same xs), apart_filtered same (λ y. not (same x y)) (first_ones same xs) (apart_firsts same xs))

-- each first one is an element
pub in_firsts : {X : Type 0} (same : X → X → Bool) (xs : List X) (z : X) → In z (first_ones same xs) → In z xs
in_firsts same [] z i = i
in_firsts same (x ∷ xs) z (inl e) = inl e
in_firsts same (x ∷ xs) z (inr i) = inr (in_firsts same xs z (from_filter (λ y. not (same x y)) (first_ones same xs) z i).0)

-- and they are no more than the elements
pub few_firsts : {X : Type 0} (same : X → X → Bool) (xs : List X) → length (first_ones same xs) ≤ length xs
few_firsts same [] = omega arith
few_firsts same (x ∷ xs) = omega (arith, filter_fewer (λ y. not (same x y)) (first_ones same xs), few_firsts same xs)

module _ {X : Type 0} (same : X → X → Bool) (through : (x y z : X) → same y z ≡ true → same z x ≡ true → same y x ≡ true) where
  -- what like y is taken away, what is like x stays, unless they are alike
  pub kept : (x y : X) → same y x ≡ false → (zs : List X)
      → list_any (λ z. same z x) (filter (λ z. not (same y z)) zs) ≡ list_any (λ z. same z x) zs
  kept x y apart [] = refl
  kept x y apart (z ∷ zs) =
      elim (same y z) as (λ b. same y z ≡ b → list_any (λ z. same z x) (cond (not b) (z ∷ filter (λ z. not (same y z)) zs) (filter (λ z. not (same y z)) zs)) ≡ (same z x || list_any (λ z. same z x) zs)) [
        | true ↦ λ yz. elim (same z x) as (λ b. same z x ≡ b → list_any (λ z. same z x) (filter (λ z. not (same y z)) zs) ≡ (b || list_any (λ z. same z x) zs)) [
          | true ↦ λ zx. absurd (no (through x y z yz zx) apart)
          | false ↦ λ _. kept x y apart zs
        ] refl
        | false ↦ λ _. ap (λ t. same z x || t) (kept x y apart zs)
      ] refl
    where
      no : same y x ≡ true → same y x ≡ false → ⊥
      no p q = cc

  -- one more element is a first one where no first one is like it
  pub first_ones_push : (xs : List X) (x : X)
      → first_ones same (xs ++ x ∷ []) ≡ first_ones same xs ++ (if list_any (λ z. same z x) (first_ones same xs) then [] else x ∷ [])
  first_ones_push [] x = refl
  first_ones_push (y ∷ ys) x =
      let rest = first_ones same ys in
      let last : Bool → List X = λ b. (if b then [] else x ∷ []) in
      ap (λ l. y ∷ filter (λ z. not (same y z)) l) (first_ones_push ys x)
      ∙ ap (λ l. y ∷ l) (filter-append (λ z. not (same y z)) rest (last (list_any (λ z. same z x) rest)))
      ∙ ap (λ l. y ∷ (filter (λ z. not (same y z)) rest ++ l))
      (elim (same y x) as (λ b. same y x ≡ b → filter (λ z. not (same y z)) (last (list_any (λ z. same z x) rest)) ≡ last (b || list_any (λ z. same z x) (filter (λ z. not (same y z)) rest))) [
        | true ↦ λ is. elim (list_any (λ z. same z x) rest) as (λ t. filter (λ z. not (same y z)) (last t) ≡ []) [ true ↦ refl | false ↦ ap (λ b. cond (not b) (x ∷ []) []) is ]
        | false ↦ λ is. ap (λ t. filter (λ z. not (same y z)) (last t)) (sym (kept x y is rest))
            ∙ elim (list_any (λ z. same z x) (filter (λ z. not (same y z)) rest)) as (λ t. filter (λ z. not (same y z)) (last t) ≡ last t) [ true ↦ refl | false ↦ ap (λ b. cond (not b) (x ∷ []) []) is ]
      ] refl)

  -- one that is like x stands among the first ones where one stands among all
  pub any_first : (x : X) (xs : List X) → list_any (λ z. same z x) (first_ones same xs) ≡ list_any (λ z. same z x) xs
  any_first x [] = refl
  any_first x (y ∷ ys) =
      elim (same y x) as (λ b. same y x ≡ b → (b || list_any (λ z. same z x) (filter (λ z. not (same y z)) (first_ones same ys))) ≡ (b || list_any (λ z. same z x) ys)) [
        | true ↦ λ e. refl
        | false ↦ λ e. kept x y e (first_ones same ys) ∙ any_first x ys
      ] refl
