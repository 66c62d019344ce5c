-- One of the elements that tie, for all of them, in ascending order.
use Rattle.std.proofs.Common.{◌≡◌, suc, ◌≤◌, arith, List, [], ◌∷◌, ◌⊎◌, inl, inr, length, refl, ap, ◌∙◌, subst, Ordering}
use Rattle.std.proofs.lemmas.Cmp.{tied_itself}
use Rattle.std.specs.List.{AllByRecursion}
use Rattle.std.specs.List.Sorted.{IsStrictlySortedBy}
use Rattle.std.specs.Cmp.{IsTotalOrder}
use Rattle.std.specs.Ordering.{ordering_reverse}
use Rattle.std.specs.declared.cmp.Ordering.TheVariants.{Less, Equal, Greater}
use Rattle.star_lists.specs.Ascending.{by_order, put, ascending}
use Rattle.star_lists.proofs.Elements.{In, Pairwise, all_of, of_all}

put_more : {X : Type 0} (c : X → X → Ordering) (x : X) (ys : List X) → length (put c x ys) ≤ suc (length ys)
put_more c x [] = omega arith
put_more c x (y ∷ ys) =
    elim (c x y) as (λ r. length (by_order r (x ∷ y ∷ ys) (y ∷ ys) (y ∷ put c x ys)) ≤ suc (suc (length ys))) [
      | Less ↦ omega arith
      | Equal ↦ omega arith
      | Greater ↦ omega (arith, put_more c x ys)
    ]

-- there are no more of them than elements
pub ascending_fewer : {X : Type 0} (c : X → X → Ordering) (xs : List X) → length (ascending c xs) ≤ length xs
ascending_fewer c [] = omega arith
ascending_fewer c (x ∷ xs) = omega (arith, put_more c x (ascending c xs), ascending_fewer c xs)

module _ {X : Type 0} (c : X → X → Ordering) (o : IsTotalOrder c) where
  all_below : (x z : X) (ys : List X) → c x z ≡ Less → AllByRecursion (λ y. c z y ≡ Less) ys → AllByRecursion (λ y. c x y ≡ Less) ys
  all_below x z [] h t = tt
  all_below x z (y ∷ ys) h t = (o.trans x z y h t.0, all_below x z ys h t.1)

  below_put : (z x : X) (ys : List X) → c z x ≡ Less → AllByRecursion (λ y. c z y ≡ Less) ys
      → AllByRecursion (λ y. c z y ≡ Less) (put c x ys)
  below_put z x [] h t = (h, tt)
  below_put z x (y ∷ ys) h t =
      elim (c x y) as (λ r. AllByRecursion (λ y. c z y ≡ Less) (by_order r (x ∷ y ∷ ys) (y ∷ ys) (y ∷ put c x ys))) [
        | Less ↦ (h, t)
        | Equal ↦ t
        | Greater ↦ (t.0, below_put z x ys h t.1)
      ]

  rising_put : (x : X) (ys : List X) → IsStrictlySortedBy c ys → IsStrictlySortedBy c (put c x ys)
  unfolding IsStrictlySortedBy
  rising_put x [] h = (tt, tt)
  rising_put x (y ∷ ys) h =
      elim (c x y) as (λ r. c x y ≡ r → IsStrictlySortedBy c (by_order r (x ∷ y ∷ ys) (y ∷ ys) (y ∷ put c x ys))) [
        | Less ↦ λ e. ((e, all_below x y ys e h.0), h)
        | Equal ↦ λ e. h
        | Greater ↦ λ e. (below_put y x ys (o.antisymm y x ∙ ap ordering_reverse e) h.0, rising_put x ys h.1)
      ] refl

  -- they rise strictly
  pub rising_ascending : (xs : List X) → IsStrictlySortedBy c (ascending c xs)
  unfolding IsStrictlySortedBy
  rising_ascending [] = tt
  rising_ascending (x ∷ xs) = rising_put x (ascending c xs) (rising_ascending xs)

  -- an element of the list ties with the given one
  abbrev pub Tied : X → List X → Type 0
  Tied z [] = ⊥
  Tied z (y ∷ ys) = (c z y ≡ Equal) ⊎ Tied z ys

  tied_put : (z x : X) (ys : List X) → Tied z (x ∷ ys) → Tied z (put c x ys)
  tied_put z x [] i = i
  tied_put z x (y ∷ ys) i =
      elim (c x y) as (λ r. c x y ≡ r → Tied z (by_order r (x ∷ y ∷ ys) (y ∷ ys) (y ∷ put c x ys))) [
        | Less ↦ λ e. i
        | Equal ↦ λ e. elim i [ inl q ↦ inl (o.congr z x y q ∙ e) | inr j ↦ j ]
        | Greater ↦ λ e. elim i [
          | inl q ↦ inr (tied_put z x ys (inl q))
          | inr j ↦ elim j [ inl q ↦ inl q | inr k ↦ inr (tied_put z x ys (inr k)) ]
        ]
      ] refl

  from_put : (z x : X) (ys : List X) → In z (put c x ys) → In z (x ∷ ys)
  from_put z x [] i = i
  from_put z x (y ∷ ys) h =
      elim (c x y) as (λ r. In z (by_order r (x ∷ y ∷ ys) (y ∷ ys) (y ∷ put c x ys)) → In z (x ∷ y ∷ ys)) [
        | Less ↦ λ i. i
        | Equal ↦ λ i. inr i
        | Greater ↦ λ i. elim i [
          | inl q ↦ inr (inl q)
          | inr j ↦ elim (from_put z x ys j) [ inl q ↦ inl q | inr k ↦ inr (inr k) ]
        ]
      ] h

  -- each element ties with one of them
  pub tied_ascending : (z : X) (xs : List X) → In z xs → Tied z (ascending c xs)
  tied_ascending z [] i = absurd i
  tied_ascending z (x ∷ xs) i =
      tied_put z x (ascending c xs) (elim i [ inl q ↦ inl (subst (λ w. c z w ≡ Equal) q (tied_itself o z)) | inr j ↦ inr (tied_ascending z xs j) ])

  -- the one that ties
  pub from_tied : (z : X) (xs : List X) → Tied z xs → (w : X) × In w xs × (c z w ≡ Equal)
  from_tied z [] i = absurd i
  from_tied z (x ∷ xs) (inl e) = (x, inl refl, e)
  from_tied z (x ∷ xs) (inr i) = let h = from_tied z xs i in (h.0, inr h.1, h.2)

  -- each of them is an element
  pub from_ascending : (z : X) (xs : List X) → In z (ascending c xs) → In z xs
  from_ascending z [] i = i
  from_ascending z (x ∷ xs) i = elim (from_put z x (ascending c xs) i) [ inl q ↦ inl q | inr j ↦ inr (from_ascending z xs j) ]

  -- where no two tie, all are kept
  length_put : (x : X) (ys : List X) → AllByRecursion (λ y. c x y ≡ Equal → ⊥) ys → length (put c x ys) ≡ suc (length ys)
  length_put x [] h = refl
  length_put x (y ∷ ys) h =
      elim (c x y) as (λ r. c x y ≡ r → length (by_order r (x ∷ y ∷ ys) (y ∷ ys) (y ∷ put c x ys)) ≡ suc (suc (length ys))) [
        | Less ↦ λ e. refl
        | Equal ↦ λ e. absurd (h.0 e)
        | Greater ↦ λ e. ap suc (length_put x ys h.1)
      ] refl

  pub length_ascending : (xs : List X) → Pairwise (λ x y. c x y ≡ Equal → ⊥) xs → length (ascending c xs) ≡ length xs
  length_ascending [] h = refl
  length_ascending (x ∷ xs) h =
      length_put x (ascending c xs) (all_of (λ y. c x y ≡ Equal → ⊥) (ascending c xs) (λ y i. of_all (λ y. c x y ≡ Equal → ⊥) xs h.0 y (from_ascending y xs i))) ∙ ap suc (length_ascending xs h.1)
