-- Lists in order: what doesn't tie rises strictly, and what a filter and a map make of them.
use Rattle.std.proofs.Common.{◌≡◌, ◌≢◌, ℕ, Bool, true, false, cond, List, [], ◌∷◌, inl, inr, refl, sym, ap, ◌∙◌, subst, map, filter, length, suc}
use Rattle.std.specs.List.{AllByRecursion}
use Rattle.std.specs.List.Sorted.{IsStrictlySortedBy}
use Rattle.std.specs.Cmp.{IsTotalOrder}
use Rattle.std.specs.Ordering.{ordering_reverse, is_gt, nat_cmp}
use Rattle.std.proofs.lemmas.Cmp.{upto, nat_cmp_total, on_total}
use Rattle.std.proofs.lemmas.Map.Lookups.{exact_unsigned}
use Rattle.std.specs.declared.cmp.Ordering.{Ordering}
use Rattle.std.specs.declared.cmp.Ordering.TheVariants.{Less, Equal, Greater}
use Rattle.star_lists.specs.Ascending.{by_order, put_before, in_order}
use Rattle.star_lists.proofs.Elements.{Pairwise, all_of, of_all, from_filter}
use Rattle.star_lists.proofs.Inside.{from_put_before, from_in_order}

module _ {X : Type 0} (c : X → X → Ordering) (o : IsTotalOrder c) where
  -- no two of the elements tie
  abbrev pub NoTies : List X → Type 0
  NoTies xs = Pairwise (λ x y. c x y ≡ Equal → ⊥) xs

  turned : (x y : X) → c x y ≡ Greater → c y x ≡ Less
  turned x y e = o.antisymm y x ∙ ap ordering_reverse e

  rising_put : (x : X) (ys : List X) → AllByRecursion (λ y. c x y ≡ Equal → ⊥) ys → IsStrictlySortedBy c ys
      → IsStrictlySortedBy c (put_before c x ys)
  unfolding IsStrictlySortedBy
  rising_put x [] f h = (tt, tt)
  rising_put x (y ∷ ys) f h =
      elim (c x y) as (λ r. c x y ≡ r → IsStrictlySortedBy c (by_order r (x ∷ y ∷ ys) (x ∷ y ∷ ys) (y ∷ put_before c x ys))) [
        | Less ↦ λ e. ((e, all_of (λ z. c x z ≡ Less) ys (λ z i. o.trans x y z e (of_all (λ z. c y z ≡ Less) ys h.0 z i))), h)
        | Equal ↦ λ e. absurd (f.0 e)
        | Greater ↦ λ e. (
          all_of (λ z. c y z ≡ Less) (put_before c x ys) (λ z i. elim (from_put_before c z x ys i) [
            | inl q ↦ subst (λ w. c y w ≡ Less) (sym q) (turned x y e)
            | inr j ↦ of_all (λ z. c y z ≡ Less) ys h.0 z j
          ]),
          rising_put x ys f.1 h.1,
        )
      ] refl

  -- elements of which no two tie rise strictly in order
  pub rising_in_order : (xs : List X) → NoTies xs → IsStrictlySortedBy c (in_order c xs)
  unfolding IsStrictlySortedBy in_order
  rising_in_order [] h = tt
  rising_in_order (x ∷ xs) h =
      rising_put x (in_order c xs) (all_of (λ y. c x y ≡ Equal → ⊥) (in_order c xs) (λ z i. of_all (λ y. c x y ≡ Equal → ⊥) xs h.0 z (from_in_order c z xs i))) (rising_in_order xs h.1)

-- not greater
abbrev pub NotGreater : {X : Type 0} → (X → X → Ordering) → X → X → Type 0
NotGreater c x y = is_gt (c x y) ≡ false

module _ {X : Type 0} (c : X → X → Ordering) (o : IsTotalOrder c) where
  less_not : (x y : X) → c x y ≡ Less → NotGreater c x y
  less_not x y e = ap is_gt e

  equal_not : (x y : X) → c x y ≡ Equal → NotGreater c x y
  equal_not x y e = ap is_gt e

  put_rises : (x : X) (ys : List X) → Pairwise (NotGreater c) ys → Pairwise (NotGreater c) (put_before c x ys)
  put_rises x [] h = (tt, tt)
  put_rises x (y ∷ ys) h =
      let front : NotGreater c x y → AllByRecursion (NotGreater c x) (y ∷ ys) = λ n. (n, all_of (NotGreater c x) ys (λ z i. upto o x y z n (of_all (NotGreater c y) ys h.0 z i))) in
      elim (c x y) as (λ r. c x y ≡ r → Pairwise (NotGreater c) (by_order r (x ∷ y ∷ ys) (x ∷ y ∷ ys) (y ∷ put_before c x ys))) [
        | Less ↦ λ e. (front (less_not x y e), h)
        | Equal ↦ λ e. (front (equal_not x y e), h)
        | Greater ↦ λ e. (
          all_of (NotGreater c y) (put_before c x ys) (λ z i. elim (from_put_before c z x ys i) [
            | inl q ↦ less_not y z (subst (λ w. c y w ≡ Less) (sym q) (o.antisymm y x ∙ ap ordering_reverse e))
            | inr j ↦ of_all (NotGreater c y) ys h.0 z j
          ]),
          put_rises x ys h.1,
        )
      ] refl

  pub in_order_rises : (xs : List X) → Pairwise (NotGreater c) (in_order c xs)
  unfolding in_order
  in_order_rises [] = tt
  in_order_rises (x ∷ xs) = put_rises x (in_order c xs) (in_order_rises xs)

  put_front : (x : X) (ys : List X) → AllByRecursion (NotGreater c x) ys → put_before c x ys ≡ x ∷ ys
  put_front x [] h = refl
  put_front x (y ∷ ys) h =
      elim (c x y) as (λ r. is_gt r ≡ false → by_order r (x ∷ y ∷ ys) (x ∷ y ∷ ys) (y ∷ put_before c x ys) ≡ x ∷ y ∷ ys) [
        | Less ↦ λ e. refl
        | Equal ↦ λ e. refl
        | Greater ↦ λ e. absurd (let no : true ≡ false = e in cc)
      ] h.0

  filter-put : (p : X → Bool) (x : X) (ys : List X) → Pairwise (NotGreater c) ys
      → filter p (put_before c x ys) ≡ cond (p x) (put_before c x (filter p ys)) (filter p ys)
  filter-put p x [] h = elim (p x) as (λ b. cond b (x ∷ []) [] ≡ cond b (x ∷ []) []) [ true ↦ refl | false ↦ refl ]
  filter-put p x (y ∷ ys) h =
      let front : NotGreater c x y → filter p (x ∷ y ∷ ys) ≡ cond (p x) (put_before c x (filter p (y ∷ ys))) (filter p (y ∷ ys)) = λ n.
      let kept : put_before c x (filter p (y ∷ ys)) ≡ x ∷ filter p (y ∷ ys) =
      put_front x (filter p (y ∷ ys)) (all_of (NotGreater c x) (filter p (y ∷ ys)) (λ z i. elim (from_filter p (y ∷ ys) z i).0 [
        | inl q ↦ subst (NotGreater c x) (sym q) n
        | inr j ↦ upto o x y z n (of_all (NotGreater c y) ys h.0 z j)
      ])) in
      ap (λ l. cond (p x) l (filter p (y ∷ ys))) (sym kept) in
      elim (c x y) as (λ r. c x y ≡ r → filter p (by_order r (x ∷ y ∷ ys) (x ∷ y ∷ ys) (y ∷ put_before c x ys)) ≡ cond (p x) (put_before c x (filter p (y ∷ ys))) (filter p (y ∷ ys))) [
        | Less ↦ λ e. front (less_not x y e)
        | Equal ↦ λ e. front (equal_not x y e)
        | Greater ↦ λ e. later e (filter-put p x ys h.1)
      ] refl
    where
      later : c x y ≡ Greater → filter p (put_before c x ys) ≡ cond (p x) (put_before c x (filter p ys)) (filter p ys)
          → filter p (y ∷ put_before c x ys) ≡ cond (p x) (put_before c x (filter p (y ∷ ys))) (filter p (y ∷ ys))
      later e rest =
          elim (p y) as (λ b. cond b (y ∷ filter p (put_before c x ys)) (filter p (put_before c x ys)) ≡ cond (p x) (put_before c x (cond b (y ∷ filter p ys) (filter p ys))) (cond b (y ∷ filter p ys) (filter p ys))) [
            | true ↦ ap (λ l. y ∷ l) rest
                ∙ elim (p x) as (λ a. y ∷ cond a (put_before c x (filter p ys)) (filter p ys) ≡ cond a (put_before c x (y ∷ filter p ys)) (y ∷ filter p ys)) [
                  | true ↦ ap (λ r. by_order r (x ∷ y ∷ filter p ys) (x ∷ y ∷ filter p ys) (y ∷ put_before c x (filter p ys))) (sym e)
                  | false ↦ refl
                ]
            | false ↦ rest
          ]

  -- what is kept of a list in order is what is kept, in order
  pub filter-in_order : (p : X → Bool) (xs : List X) → filter p (in_order c xs) ≡ in_order c (filter p xs)
  unfolding in_order
  filter-in_order p [] = refl
  filter-in_order p (x ∷ xs) =
      filter-put p x (in_order c xs) (in_order_rises xs)
      ∙ ap (λ l. cond (p x) (put_before c x l) l) (filter-in_order p xs)
      ∙ elim (p x) as (λ b. cond b (put_before c x (in_order c (filter p xs))) (in_order c (filter p xs)) ≡ in_order c (cond b (x ∷ filter p xs) (filter p xs))) [ true ↦ refl | false ↦ refl ]

put-map : {X Y : Type 0} (c : X → X → Ordering) (d : Y → Y → Ordering) (f : X → Y) → ((a b : X) → d (f a) (f b) ≡ c a b)
    → (x : X) (ys : List X) → put_before d (f x) (map f ys) ≡ map f (put_before c x ys)
put-map c d f h x [] = refl
put-map c d f h x (y ∷ ys) =
    (λ i. by_order (h x y i) (f x ∷ f y ∷ map f ys) (f x ∷ f y ∷ map f ys) (f y ∷ put-map c d f h x ys i))
    ∙ elim (c x y) as (λ r. by_order r (f x ∷ f y ∷ map f ys) (f x ∷ f y ∷ map f ys) (f y ∷ map f (put_before c x ys)) ≡ map f (by_order r (x ∷ y ∷ ys) (x ∷ y ∷ ys) (y ∷ put_before c x ys))) [ Less ↦ refl | Equal ↦ refl | Greater ↦ refl ]

-- what keeps the order keeps a list in order
pub in_order-map : {X Y : Type 0} (c : X → X → Ordering) (d : Y → Y → Ordering) (f : X → Y) → ((a b : X) → d (f a) (f b) ≡ c a b)
    → (xs : List X) → in_order d (map f xs) ≡ map f (in_order c xs)
unfolding in_order
in_order-map c d f h [] = refl
in_order-map c d f h (x ∷ xs) = ap (put_before d (f x)) (in_order-map c d f h xs) ∙ put-map c d f h x (in_order c xs)

length-put : {X : Type 0} (c : X → X → Ordering) (x : X) (ys : List X) → length (put_before c x ys) ≡ suc (length ys)
length-put c x [] = refl
length-put c x (y ∷ ys) =
    elim (c x y) as (λ r. length (by_order r (x ∷ y ∷ ys) (x ∷ y ∷ ys) (y ∷ put_before c x ys)) ≡ suc (suc (length ys))) [
      | Less ↦ refl
      | Equal ↦ refl
      | Greater ↦ ap suc (length-put c x ys)
    ]

-- none is lost
pub length-in_order : {X : Type 0} (c : X → X → Ordering) (xs : List X) → length (in_order c xs) ≡ length xs
unfolding in_order
length-in_order c [] = refl
length-in_order c (x ∷ xs) = length-put c x (in_order c xs) ∙ ap suc (length-in_order c xs)

-- ---- by numbers

module _ {X : Type 0} (number : X → ℕ) where
  -- by the numbers of the elements
  abbrev pub by : X → X → Ordering
  by a b = nat_cmp (number a) (number b)

  pub by_total : IsTotalOrder by
  by_total = on_total number nat_cmp_total

  numbers_untied : (xs : List X) → Pairwise (λ a b. number a ≢ number b) xs → NoTies by by_total xs
  numbers_untied [] h = tt
  numbers_untied (x ∷ xs) h =
      (all_of (λ y. by x y ≡ Equal → ⊥) xs (λ y i e. of_all (λ y. number x ≢ number y) xs h.0 y i (exact_unsigned (number x) (number y) e)), numbers_untied xs h.1)

  -- elements whose numbers differ rise strictly in order
  pub numbers_rise : (xs : List X) → Pairwise (λ a b. number a ≢ number b) xs → IsStrictlySortedBy by (in_order by xs)
  numbers_rise xs h = rising_in_order by by_total xs (numbers_untied xs h)
