-- What the rows of a level make row by row is what they make group by group, sorted by the numbers of their records.
use Rattle.std.proofs.Common.{◌≡◌, ℕ, true, List, [], ◌∷◌, Option, Some, None, refl, sym, ◌∙◌, subst, map}
use Rattle.std.specs.List.{flat_map, filter_map, cons_option, AllByRecursion}
use Rattle.std.specs.List.Sorted.{IsPermutation, IsSorted, IsStrictlySortedBy}
use Rattle.std.specs.Cmp.{both_ways, nat_cmp_total}
use Rattle.std.specs.Ordering.{nat_cmp}
use Rattle.std.specs.declared.cmp.Ordering.{Ordering}
use Rattle.std.specs.declared.cmp.Ordering.TheVariants.{Less}
use Rattle.std.proofs.lemmas.Cmp.{on_total}
use Rattle.std.proofs.lemmas.List.Sorted.{IsPermutation-trans}
use Rattle.star_lists.proofs.Rising.{sorted_is}
use Rattle.tag_groups.specs.Left.{point_of, points_left_of}
use Rattle.layer_walk.specs.Rows.{Row, same_group, members, first_members}
use Rattle.layer_walk.specs.Outcomes.{outcome_of, outcome_at}
use Rattle.layer_walk.proofs.Same.{one_group, itself, turned, alike, same_members}
use Rattle.layer_walk.proofs.Parts.{groups_joined}

turns : (a b : Row) → same_group a b ≡ same_group b a
turns a b = both_ways (same_group a b) (same_group b a) (turned a b) (turned b a)

-- rows of one group have the same outcome
pub same_outcome : (e l : ℕ) (rows : List Row) (a b : Row) → same_group a b ≡ true → outcome_at e l rows a ≡ outcome_at e l rows b
unfolding outcome_at
same_outcome e l rows a b h =
    let g = one_group a b h in
    let m = same_members a b h rows in
    λ i. outcome_of e l (g.parent i).check (g.head i) (points_left_of (map (λ (r : Row). point_of r.frame) (m i)))

-- the numbers go on rising
module _ {Y : Type 0} (number : Y → ℕ) (f : Row → Option Y) (kept : (row : Row) (y : Y) → f row ≡ Some y → number y ≡ row.index) where
  abbrev pub by_number : Y → Y → Ordering
  by_number a b = nat_cmp (number a) (number b)

  abbrev pub by_row : Row → Row → Ordering
  by_row a b = nat_cmp a.index b.index

  below_kept : (x : Row) (y : Y) → number y ≡ x.index → (rows : List Row) → AllByRecursion (λ r. by_row x r ≡ Less) rows → AllByRecursion (λ r. by_number y r ≡ Less) (filter_map f rows)
  below_kept x y e [] a = tt
  below_kept x y e (r ∷ rs) a =
      elim (f r) as (λ o. f r ≡ o → AllByRecursion (λ r. by_number y r ≡ Less) (cons_option o (filter_map f rs))) [
        | None ↦ λ is. below_kept x y e rs a.1
        | Some n ↦ λ is. ((λ i. nat_cmp (e i) (kept r n is i)) ∙ a.0, below_kept x y e rs a.1)
      ] refl

  pub rising_kept : (rows : List Row) → IsStrictlySortedBy by_row rows → IsStrictlySortedBy by_number (filter_map f rows)
  unfolding IsStrictlySortedBy
  rising_kept [] a = tt
  rising_kept (r ∷ rs) a =
      elim (f r) as (λ o. f r ≡ o → IsStrictlySortedBy by_number (cons_option o (filter_map f rs))) [
        | None ↦ λ is. rising_kept rs a.1
        | Some n ↦ λ is. (below_kept r n (kept r n is) rs a.0, rising_kept rs a.1)
      ] refl

  -- made group by group, and sorted
  pub sorted_groups : (rows : List Row) (made sorted : List Y) → IsStrictlySortedBy by_row rows → made ≡ flat_map (λ first. filter_map f (members rows first)) (first_members rows) → IsPermutation made sorted → IsSorted by_number sorted → sorted ≡ filter_map f rows
  sorted_groups rows made sorted up is moved order =
      let joined : IsPermutation (filter_map f rows) made = subst (IsPermutation (filter_map f rows)) (sym is) (groups_joined same_group itself turns alike f rows) in
      sorted_is by_number (on_total number nat_cmp_total) (filter_map f rows) sorted (rising_kept rows up) (IsPermutation-trans _ _ _ joined moved) order
