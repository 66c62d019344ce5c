-- What a stable sort leaves is the list in order.
use Rattle.std.proofs.Common.{◌≡◌, Bool, true, false, cond, not, ◌&&◌, List, [], ◌∷◌, filter, refl, sym, ap, ◌∙◌}
use Rattle.std.specs.List.{AllByRecursion}
use Rattle.std.specs.List.Sorted.{IsSorted, IsStable, ties}
use Rattle.std.specs.Cmp.{IsTotalOrder, IsStrictWeakOrder}
use Rattle.std.specs.Ordering.{ordering_reverse, is_lt, is_gt}
use Rattle.std.specs.declared.cmp.Ordering.{Ordering}
use Rattle.std.specs.declared.cmp.Ordering.TheVariants.{Less, Equal, Greater}
use Rattle.std.proofs.lemmas.Bool.{false≢true}
use Rattle.std.proofs.lemmas.Cmp.{tied_itself}
use Rattle.star_lists.specs.Ascending.{by_order, put_before, in_order}
use Rattle.star_lists.proofs.Elements.{Pairwise, all_of, of_all}
use Rattle.star_lists.proofs.InOrder.{NotGreater, in_order_rises}
use Rattle.star_lists.proofs.Rising.{NonDec, from_sorted}

module _ {X : Type 0} (c : X → X → Ordering) (o : IsTotalOrder c) where
  abbrev lt : X → X → Bool
  lt x y = is_lt (c x y)

  -- less than one that is not greater than the next
  through : (y z w : X) → c y z ≡ Less → lt w z ≡ false → c y w ≡ Less
  through y z w h n =
      elim (c w z) as (λ r. c w z ≡ r → is_lt r ≡ false → c y w ≡ Less) [
        | Less ↦ λ e n. absurd (false≢true (sym n))
        | Equal ↦ λ e n.
            let back : c w y ≡ Greater = o.congr w z y e ∙ o.antisymm z y ∙ ap ordering_reverse h in
            o.antisymm y w ∙ ap ordering_reverse back
        | Greater ↦ λ e n. o.trans y z w h (o.antisymm z w ∙ ap ordering_reverse e)
      ] refl n

  tie_less : (y w : X) → c y w ≡ Less → ties lt y w ≡ false
  tie_less y w h = ap (λ r. not (is_lt r) && not (lt w y)) h

  tie_equal : (y w : X) → c y w ≡ Equal → ties lt y w ≡ true
  tie_equal y w h =
      (λ i. not (is_lt (h i)) && not (is_lt ((o.antisymm w y ∙ ap ordering_reverse h) i)))

  -- nothing ties with what is less than the first of a rising list
  no_tie : (y z : X) (zs : List X) → c y z ≡ Less → AllByRecursion (λ w. lt w z ≡ false) zs → filter (ties lt y) zs ≡ []
  no_tie y z [] h n = refl
  no_tie y z (w ∷ ws) h n = ap (λ b. cond b (w ∷ filter (ties lt y) ws) (filter (ties lt y) ws)) (tie_less y w (through y z w h n.0))
      ∙ no_tie y z ws h n.1

  none_less : (y z : X) (ys zs : List X) → c y z ≡ Less → AllByRecursion (λ w. lt w z ≡ false) zs
      → filter (ties lt y) (y ∷ ys) ≡ filter (ties lt y) (z ∷ zs) → ⊥
  none_less y z ys zs h n same =
      let left : filter (ties lt y) (y ∷ ys) ≡ y ∷ filter (ties lt y) ys = ap (λ b. cond b (y ∷ filter (ties lt y) ys) (filter (ties lt y) ys)) (tie_equal y y (tied_itself o y)) in
      let right : filter (ties lt y) (z ∷ zs) ≡ [] = ap (λ b. cond b (z ∷ filter (ties lt y) zs) (filter (ties lt y) zs)) (tie_less y z h)
      ∙ no_tie y z zs h n in
      let e : y ∷ filter (ties lt y) ys ≡ [] = sym left ∙ same ∙ right in
      cc

  tails : (x y : X) (ys zs : List X) → filter (ties lt x) (y ∷ ys) ≡ filter (ties lt x) (y ∷ zs)
      → filter (ties lt x) ys ≡ filter (ties lt x) zs
  tails x y ys zs h =
      elim (ties lt x y) as (λ b. cond b (y ∷ filter (ties lt x) ys) (filter (ties lt x) ys) ≡ cond b (y ∷ filter (ties lt x) zs) (filter (ties lt x) zs) → filter (ties lt x) ys ≡ filter (ties lt x) zs) [
        | true ↦ λ e. (let f : filter (ties lt x) ys ≡ filter (ties lt x) zs = cc in f)
        | false ↦ λ e. e
      ] h

  -- rising lists with the same ties are one list
  one_list : (ys zs : List X) → NonDec c o ys → NonDec c o zs → ((x : X) → filter (ties lt x) ys ≡ filter (ties lt x) zs) → ys ≡ zs
  unfolding NonDec
  one_list [] [] p q h = refl
  one_list [] (z ∷ zs) p q h =
      let e : [] ≡ z ∷ filter (ties lt z) zs = h z
      ∙ ap (λ b. cond b (z ∷ filter (ties lt z) zs) (filter (ties lt z) zs)) (tie_equal z z (tied_itself o z)) in
      absurd (cc)
  one_list (y ∷ ys) [] p q h =
      let e : y ∷ filter (ties lt y) ys ≡ [] = sym (ap (λ b. cond b (y ∷ filter (ties lt y) ys) (filter (ties lt y) ys)) (tie_equal y y (tied_itself o y))) ∙ h y in
      absurd (cc)
  one_list (y ∷ ys) (z ∷ zs) p q h =
      let equal : c y z ≡ Equal = elim (c y z) as (λ r. c y z ≡ r → r ≡ Equal) [
        | Less ↦ λ e. absurd (none_less y z ys zs e q.0 (h y))
        | Equal ↦ λ e. refl
        | Greater ↦ λ e. absurd (none_less z y zs ys (o.antisymm z y ∙ ap ordering_reverse e) p.0 (sym (h z)))
      ] refl in
      let left : filter (ties lt y) (y ∷ ys) ≡ y ∷ filter (ties lt y) ys = ap (λ b. cond b (y ∷ filter (ties lt y) ys) (filter (ties lt y) ys)) (tie_equal y y (tied_itself o y)) in
      let right : filter (ties lt y) (z ∷ zs) ≡ z ∷ filter (ties lt y) zs = ap (λ b. cond b (z ∷ filter (ties lt y) zs) (filter (ties lt y) zs)) (tie_equal y z equal) in
      let both : y ∷ filter (ties lt y) ys ≡ z ∷ filter (ties lt y) zs = sym left ∙ h y ∙ right in
      let head : y ≡ z = cc in
      let rest : (x : X) → filter (ties lt x) ys ≡ filter (ties lt x) zs = λ x. tails x y ys zs (h x ∙ ap (λ w. filter (ties lt x) (w ∷ zs)) (sym head)) in
      λ i. head i ∷ one_list ys zs p.1 q.1 rest i

  not_greater : (x y w : X) → lt y x ≡ false → lt w y ≡ false → lt w x ≡ false
  not_greater x y w h n =
      elim (c w x) as (λ r. c w x ≡ r → is_lt r ≡ false) [
        | Less ↦ λ e. absurd (false≢true (sym n ∙ ap is_lt (through w x y e h)))
        | Equal ↦ λ e. refl
        | Greater ↦ λ e. refl
      ] refl

  -- the list in order rises
  turned : (x y : X) → NotGreater c x y → lt y x ≡ false
  turned x y h = ap is_lt (o.antisymm y x) ∙ other_way (c x y) ∙ h
    where
      other_way : (r : Ordering) → is_lt (ordering_reverse r) ≡ is_gt r
      other_way Less = refl
      other_way Equal = refl
      other_way Greater = refl

  from_pairwise : (xs : List X) → Pairwise (NotGreater c) xs → NonDec c o xs
  unfolding NonDec
  from_pairwise [] h = tt
  from_pairwise (x ∷ xs) h =
      (all_of (λ y. lt y x ≡ false) xs (λ y i. turned x y (of_all (NotGreater c x) xs h.0 y i)), from_pairwise xs h.1)

  -- and has the same ties
  swapped : (w x y : X) (l : List X) → c x y ≡ Greater → filter (ties lt w) (y ∷ x ∷ l) ≡ filter (ties lt w) (x ∷ y ∷ l)
  swapped w x y l h =
      elim (ties lt w x) as (λ a. ties lt w x ≡ a → cond (ties lt w y) (y ∷ cond a (x ∷ filter (ties lt w) l) (filter (ties lt w) l)) (cond a (x ∷ filter (ties lt w) l) (filter (ties lt w) l)) ≡ cond a (x ∷ cond (ties lt w y) (y ∷ filter (ties lt w) l) (filter (ties lt w) l)) (cond (ties lt w y) (y ∷ filter (ties lt w) l) (filter (ties lt w) l))) [
        | true ↦ λ wx. elim (ties lt w y) as (λ b. ties lt w y ≡ b → cond b (y ∷ x ∷ filter (ties lt w) l) (x ∷ filter (ties lt w) l) ≡ x ∷ cond b (y ∷ filter (ties lt w) l) (filter (ties lt w) l)) [
          | true ↦ λ wy. absurd (not_both w x y h wx wy)
          | false ↦ λ _. refl
        ] refl
        | false ↦ λ _. refl
      ] refl
    where
      tied : (a b : X) → ties lt a b ≡ true → c a b ≡ Equal
      tied a b t = elim (c a b) as (λ r. c a b ≡ r → r ≡ Equal) [
        | Less ↦ λ e. absurd (false≢true (sym (tie_less a b e) ∙ t))
        | Equal ↦ λ e. refl
        | Greater ↦ λ e. absurd (false≢true (sym (greater_tie a b e) ∙ t))
      ] refl
        where
          greater_tie : (a b : X) → c a b ≡ Greater → ties lt a b ≡ false
          greater_tie a b e = (λ i. not (is_lt (e i)) && not (is_lt ((o.antisymm b a ∙ ap ordering_reverse e) i)))

      not_both : (w x y : X) → c x y ≡ Greater → ties lt w x ≡ true → ties lt w y ≡ true → ⊥
      not_both w x y h wx wy =
          let e : Equal ≡ Greater = sym (tied w y wy) ∙ o.congr w x y (tied w x wx) ∙ h in
          cc

  put_ties : (w x : X) (ys : List X) → filter (ties lt w) (put_before c x ys) ≡ filter (ties lt w) (x ∷ ys)
  put_ties w x [] = refl
  put_ties w x (y ∷ ys) =
      elim (c x y) as (λ r. c x y ≡ r → filter (ties lt w) (by_order r (x ∷ y ∷ ys) (x ∷ y ∷ ys) (y ∷ put_before c x ys)) ≡ filter (ties lt w) (x ∷ y ∷ ys)) [
        | Less ↦ λ e. refl
        | Equal ↦ λ e. refl
        | Greater ↦ λ e. ap (λ l. cond (ties lt w y) (y ∷ l) l) (put_ties w x ys) ∙ swapped w x y ys e
      ] refl

  order_ties : (w : X) (xs : List X) → filter (ties lt w) (in_order c xs) ≡ filter (ties lt w) xs
  unfolding in_order
  order_ties w [] = refl
  order_ties w (x ∷ xs) = put_ties w x (in_order c xs) ∙ ap (λ l. cond (ties lt w x) (x ∷ l) l) (order_ties w xs)

  -- a sorted list with the same ties is the list in order
  pub stable_sort : (xs ys : List X) → IsSorted c ys → IsStable c xs ys → ys ≡ in_order c xs
  stable_sort xs ys up stable =
      one_list ys (in_order c xs) (from_sorted c o ys up) (from_pairwise (in_order c xs) (in_order_rises c o xs)) (λ w. stable w ∙ sym (order_ties w xs))

  one_way : (x y : X) → lt x y ≡ true → lt y x ≡ false
  one_way x y h =
      elim (c x y) as (λ r. c x y ≡ r → is_lt r ≡ true → lt y x ≡ false) [
        | Less ↦ λ e _. ap is_lt (o.antisymm y x ∙ ap ordering_reverse e)
        | Equal ↦ λ e n. absurd (false≢true n)
        | Greater ↦ λ e n. absurd (false≢true n)
      ] refl h

  -- what a sort asks of the order
  pub weak_order : IsStrictWeakOrder (λ (x y : X). is_lt (c x y))
  weak_order = record { one_way = one_way; chain = λ x y z p q. not_greater z y x q p }
