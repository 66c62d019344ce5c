-- Lists in strictly ascending order: two with the same elements are one, and what a sort leaves of one is that list.
use Rattle.std.proofs.Common.{◌≡◌, ℕ, suc, ◌+◌, ◌≤◌, Bool, true, false, cond, List, [], ◌∷◌, length, filter, inl, inr, refl, sym, ap, ◌∙◌, subst, arith, get_or}
use Rattle.std.specs.List.{AllByRecursion, sum_by}
use Rattle.std.specs.List.Sorted.{IsStrictlySortedBy, IsSorted, IsPermutation}
use Rattle.std.specs.Cmp.{IsTotalOrder}
use Rattle.std.specs.Ordering.{ordering_reverse, is_lt, is_eq}
use Rattle.std.specs.declared.cmp.Ordering.{Ordering}
use Rattle.std.specs.declared.cmp.Ordering.TheVariants.{Less, Equal, Greater}
use Rattle.std.proofs.lemmas.Bool.{false≢true}
use Rattle.std.proofs.lemmas.Cmp.{tied_itself}
use Rattle.std.proofs.lemmas.List.Elements.{recursion_from_All}
use Rattle.std.proofs.lemmas.List.Sorted.{sorted_far, ranks_by, Contains-permutation, IsPermutation-sym, sum_by-IsPermutation}
use Rattle.std.proofs.lemmas.List.Sums.{sum_by-cons}
use Rattle.star_lists.specs.Elements.{EquallyOften}
use Rattle.star_lists.proofs.Elements.{In, in_from_Contains, Contains-from_in, all_of, of_all}

-- how many elements pass
abbrev how_many : {X : Type 0} → (X → Bool) → List X → ℕ
how_many p xs = length (filter p xs)

counted : {X : Type 0} (p : X → Bool) (xs : List X) → how_many p xs ≡ sum_by (λ x. cond (p x) 1 0) xs
counted p [] = refl
counted p (x ∷ xs) =
    let one : how_many p (x ∷ xs) ≡ cond (p x) 1 0 + how_many p xs =
    elim (p x) as (λ b. length (cond b (x ∷ filter p xs) (filter p xs)) ≡ cond b 1 0 + how_many p xs) [ true ↦ omega arith | false ↦ omega arith ] in
    one ∙ ap (λ n. cond (p x) 1 0 + n) (counted p xs) ∙ sym (sum_by-cons (λ x. cond (p x) 1 0) x xs)

-- each test passes equally often in another order
pub EquallyOften-from_permutation : {X : Type 0} (xs ys : List X) → IsPermutation xs ys → EquallyOften xs ys
EquallyOften-from_permutation xs ys h p = counted p xs ∙ sym (sum_by-IsPermutation (λ x. cond (p x) 1 0) xs ys h) ∙ sym (counted p ys)

module _ {X : Type 0} (c : X → X → Ordering) (o : IsTotalOrder c) where
  not_below_itself : (x : X) → c x x ≡ Less → ⊥
  not_below_itself x h = let e : Less ≡ Greater = sym h ∙ o.antisymm x x ∙ ap ordering_reverse h in cc

  not_both : (x y : X) → c x y ≡ Less → c y x ≡ Less → ⊥
  not_both x y p q = not_below_itself x (o.trans x y x p q)

  -- two with the same elements
  pub same_rising : (xs ys : List X) → IsStrictlySortedBy c xs → IsStrictlySortedBy c ys → ((z : X) → In z xs → In z ys)
      → ((z : X) → In z ys → In z xs) → xs ≡ ys
  unfolding IsStrictlySortedBy
  same_rising [] [] p q f g = refl
  same_rising [] (y ∷ ys) p q f g = absurd (g y (inl refl))
  same_rising (x ∷ xs) [] p q f g = absurd (f x (inl refl))
  same_rising (x ∷ xs) (y ∷ ys) p q f g =
      let heads : x ≡ y = elim (f x (inl refl)) [
        | inl e ↦ e
        | inr i ↦ elim (g y (inl refl)) [
          | inl e ↦ sym e
          | inr j ↦ absurd (not_both x y (of_all (λ w. c x w ≡ Less) xs p.0 y j) (of_all (λ w. c y w ≡ Less) ys q.0 x i))
        ]
      ] in
      let there : (z : X) → In z xs → In z ys = λ z i. elim (f z (inr i)) [
        | inl e ↦ absurd (not_below_itself x (subst (λ w. c x w ≡ Less) (e ∙ sym heads) (of_all (λ w. c x w ≡ Less) xs p.0 z i)))
        | inr j ↦ j
      ] in
      let back : (z : X) → In z ys → In z xs = λ z i. elim (g z (inr i)) [
        | inl e ↦ absurd (not_below_itself y (subst (λ w. c y w ≡ Less) (e ∙ heads) (of_all (λ w. c y w ≡ Less) ys q.0 z i)))
        | inr j ↦ j
      ] in
      λ i. heads i ∷ same_rising xs ys p.1 q.1 there back i

  tie : X → X → Bool
  tie x y = is_eq (c x y)

  no_ties : (x : X) (ys : List X) → AllByRecursion (λ y. c x y ≡ Less) ys → how_many (tie x) ys ≡ 0
  unfolding tie
  no_ties x [] h = refl
  no_ties x (y ∷ ys) h = ap (λ r. length (cond (is_eq r) (y ∷ filter (tie x) ys) (filter (tie x) ys))) h.0 ∙ no_ties x ys h.1

  one_tie : (x : X) (zs : List X) → IsStrictlySortedBy c zs → how_many (tie x) zs ≤ 1
  unfolding tie IsStrictlySortedBy
  one_tie x [] h = omega arith
  one_tie x (z ∷ zs) h =
      elim (c x z) as (λ r. c x z ≡ r → length (cond (is_eq r) (z ∷ filter (tie x) zs) (filter (tie x) zs)) ≤ 1) [
        | Less ↦ λ e. one_tie x zs h.1
        | Equal ↦ λ e. omega (arith, no_ties x zs (all_of (λ y. c x y ≡ Less) zs (λ y i. o.congr x z y e ∙ of_all (λ y. c z y ≡ Less) zs h.0 y i)))
        | Greater ↦ λ e. one_tie x zs h.1
      ] refl

  -- none is less than those before it
  unfoldable pub NonDec : List X → Type 0
  NonDec [] = Unit {0}
  NonDec (x ∷ xs) = AllByRecursion (λ y. is_lt (c y x) ≡ false) xs × NonDec xs

  -- as std says it of a sorted list
  pub from_sorted : (xs : List X) → IsSorted c xs → NonDec xs
  unfolding NonDec
  from_sorted [] h = tt
  from_sorted (x ∷ xs) h = (
    recursion_from_All (λ y. is_lt (c y x) ≡ false) xs (λ k d lt. sorted_far (λ a b. is_lt (c a b)) (ranks_by o (λ a. a)) (x ∷ xs) h 0 (suc k) d (omega arith) (omega arith)),
    from_sorted xs (λ k d low lt. subst (λ n. is_lt (c (get_or (x ∷ xs) n d) (get_or xs k d)) ≡ false) {x = suc k + 1} {y = suc (k + 1)} (omega arith) (h (suc k) d (omega arith) (omega arith))),
  )

  strict_part : (x : X) (ys : List X) → AllByRecursion (λ y. is_lt (c y x) ≡ false) ys → how_many (tie x) ys ≡ 0
      → AllByRecursion (λ y. c x y ≡ Less) ys
  unfolding tie
  strict_part x [] h n = tt
  strict_part x (y ∷ ys) h n =
      elim (c x y) as (λ r. c x y ≡ r → length (cond (is_eq r) (y ∷ filter (tie x) ys) (filter (tie x) ys)) ≡ 0 → (r ≡ Less) × AllByRecursion (λ y. c x y ≡ Less) ys) [
        | Less ↦ λ e n. (refl, strict_part x ys h.1 n)
        | Equal ↦ λ e n. absurd (omega arith)
        | Greater ↦ λ e n. absurd (false≢true (sym h.0 ∙ ap is_lt (o.antisymm y x ∙ ap ordering_reverse e)))
      ] refl n

  tied : (x : X) → is_eq (c x x) ≡ true
  tied x = ap is_eq (tied_itself o x)

  strict_from : (ys : List X) → NonDec ys → ((x : X) → how_many (tie x) ys ≤ 1) → IsStrictlySortedBy c ys
  unfolding NonDec IsStrictlySortedBy tie
  strict_from [] h few = tt
  strict_from (x ∷ xs) h few =
      let here : suc (how_many (tie x) xs) ≤ 1 = subst (λ b. length (cond b (x ∷ filter (tie x) xs) (filter (tie x) xs)) ≤ 1) (tied x) (few x) in
      let fewer : (z : X) → how_many (tie z) xs ≤ 1 = λ z. elim (is_eq (c z x)) as (λ b. length (cond b (x ∷ filter (tie z) xs) (filter (tie z) xs)) ≤ 1 → how_many (tie z) xs ≤ 1) [ true ↦ λ n. omega arith | false ↦ λ n. n ] (few z) in
      (strict_part x xs h.0 (omega arith), strict_from xs h.1 fewer)

  -- what a sort leaves of the elements of a strictly ascending list
  pub sorted_is : (zs ys : List X) → IsStrictlySortedBy c zs → IsPermutation zs ys → IsSorted c ys → ys ≡ zs
  unfolding tie
  sorted_is zs ys up moved sorted =
      let few : (x : X) → how_many (tie x) ys ≤ 1 = λ x. subst (λ n. n ≤ 1) (EquallyOften-from_permutation zs ys moved (tie x)) (one_tie x zs up) in
      same_rising ys zs (strict_from ys (from_sorted ys sorted) few) up
      (λ z i. in_from_Contains zs z (Contains-permutation ys zs z (IsPermutation-sym zs ys moved) (Contains-from_in ys z i)))
      (λ z i. in_from_Contains ys z (Contains-permutation zs ys z moved (Contains-from_in zs z i)))
