-- The groups of a level fit it.
use Rattle.std.proofs.Common.{◌≡◌, ℕ, suc, ◌+◌, ◌<◌, ◌≤◌, Bool, true, false, cond, List, [], ◌∷◌, length, filter, arith, All, refl, ap, sym, subst}
use Rattle.std.specs.Prelude.{if◌then◌else◌}
use Rattle.report_frame.specs.declared.limits.TheConstants.{MAX_LEVEL_TWO}
use Rattle.star_lists.specs.Places.{places_from}
use Rattle.star_lists.proofs.Elements.{filter_fewer}
use Rattle.star_lists.proofs.Places.{places_below}
use Rattle.tag_groups.specs.RowView.{RowView}
use Rattle.tag_groups.specs.GroupView.{GroupView}
use Rattle.tag_groups.specs.Keys.{same_key}
use Rattle.tag_groups.specs.Grouped.{groups_of}
use Rattle.tag_groups.proofs.Grown.{few_groups}
use Rattle.tag_groups.proofs.GroupLaws.{heads_all}
use Rattle.layer_walk.specs.declared.level.Level.{Level}
use Rattle.layer_walk.specs.Outs.{FitsLevel}
use Rattle.layer_walk.specs.Made.{IsLevel}

-- there are as many places as elements that pass
pub length-places_from : {X : Type 0} (i : ℕ) (test : X → Bool) (xs : List X) → length (places_from i test xs) ≡ length (filter test xs)
length-places_from i test [] = refl
length-places_from i test (x ∷ xs) =
    let rest = length-places_from (i + 1) test xs in
    elim (test x) as (λ b. length (if b then i ∷ places_from (i + 1) test xs else places_from (i + 1) test xs) ≡ length (cond b (x ∷ filter test xs) (filter test xs))) [
      | true ↦ ap suc rest
      | false ↦ rest
    ]

pub groups_fit : (level : Level) (groups : List GroupView) → IsLevel level → level.number ≤ MAX_LEVEL_TWO → groups ≡ groups_of level.rows → All (FitsLevel level) groups
groups_fit level groups good deep is =
    let rows = level.rows in
    subst (All (FitsLevel level)) (sym is)
    (heads_all (λ row. row.parent < length level.parents) (FitsLevel level) rows (λ row inside. record {
      parent = inside;
      members = λ k d lt. omega (arith, places_below 0 (same_key row) rows k d lt);
      few = omega (arith, length-places_from 0 (same_key row) rows, filter_fewer (same_key row) rows, good.few);
      number = deep;
    }) good.parents)

-- there are no more groups than rows
pub groups_few : (rows : List RowView) (groups : List GroupView) → groups ≡ groups_of rows → length groups ≤ length rows
groups_few rows groups is = omega (arith, ap length is, few_groups rows)
