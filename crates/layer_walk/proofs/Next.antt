-- The level after is a level.
use Rattle.std.proofs.Common.{◌≡◌, ◌≢◌, ℕ, ◌+◌, ◌<◌, ◌≤◌, ◌^◌, List, length, refl, sym, ap, subst, map, arith, All, AllPairs, Some}
use Rattle.std.specs.List.{slice_get}
use Rattle.std.specs.List.Sorted.{IsPermutation, IsSorted, IsStrictlySortedBy}
use Rattle.std.specs.Ordering.{nat_cmp}
use Rattle.std.proofs.lemmas.List.{length-map}
use Rattle.std.proofs.lemmas.List.Sorted.{All-permutation}
use Rattle.report_frame.specs.declared.limits.TheConstants.{MAX_LEVEL_TWO}
use Rattle.star_lists.proofs.Elements.{filter_map_fewer}
use Rattle.tag_groups.specs.RowView.{RowView}
use Rattle.tag_groups.specs.GroupView.{GroupView}
use Rattle.tag_groups.specs.Grouped.{groups_of}
use Rattle.layer_walk.specs.declared.group.GroupOut.{GroupOut}
use Rattle.layer_walk.specs.declared.level.Level.{Level}
use Rattle.layer_walk.specs.declared.level.Parent.{Parent}
use Rattle.layer_walk.specs.Rows.{Row, first_members}
use Rattle.layer_walk.specs.Outs.{IsOut, FitsLevel}
use Rattle.layer_walk.specs.Levels.{parents_at, next_row, next_rows}
use Rattle.layer_walk.specs.Made.{of_level, named_row, named, row_cmp, AreOuts, IsAfter, IsLevel}
use Rattle.layer_walk.specs.Kept.{AreChildren}
use Rattle.layer_walk.proofs.Fits.{groups_fit, groups_few}
use Rattle.layer_walk.proofs.Pairs.{group_at, zip_lengths}
use Rattle.layer_walk.proofs.NextRows.{rising_kept}
use Rattle.layer_walk.proofs.Making.{after_rows}
use Rattle.layer_walk.proofs.HeldRows.{next_from}
use Rattle.layer_walk.proofs.Paths.{paths_differ, depth_more}

-- the group at a place fits the level
pub fit_at : (level : Level) (groups : List GroupView) → IsLevel level → level.number ≤ MAX_LEVEL_TWO → groups ≡ groups_of level.rows → (i : ℕ) (g : GroupView) → i < length groups → slice_get groups i ≡ Some g → FitsLevel level g
fit_at level groups good deep gs i g inside is = subst (FitsLevel level) (sym (group_at groups i g inside is)) (groups_fit level groups good deep gs i g inside)

-- there are few outs
pub outs_few : (level : Level) (groups : List GroupView) (outs : List GroupOut) → IsLevel level → groups ≡ groups_of level.rows → AreOuts level groups outs → length outs < 2 ^ 32
outs_few level groups outs good gs zip = omega (arith, zip_lengths (IsOut level) groups outs zip, groups_few level.rows groups gs, good.few)

module _ (level : Level) (good : IsLevel level) (parents : List Parent) (rows sorted : List RowView)
    (so : AreChildren level (first_members (named level)) parents rows) (moved : IsPermutation rows sorted)
    (order : IsSorted row_cmp sorted) where
  rows_are : map (named_row parents) sorted ≡ of_level level next_rows
  rows_are = after_rows level good parents rows sorted so moved order

  abbrev pub after : Level
  after = record { number = level.number + 1; epoch = level.epoch; parents = parents; rows = sorted }

  parents_are : parents ≡ of_level level parents_at
  unfolding parents_at
  parents_are = so.parents_are

  pub is_after : IsAfter level after
  is_after = record { number = refl; epoch = refl; parents = parents_are; rows = rows_are }

  few : length sorted < 2 ^ 32
  unfolding next_rows
  few =
      let long : length (map (named_row parents) sorted) ≡ length sorted = length-map sorted (named_row parents) in
      let before : length (named level) ≡ length level.rows = length-map level.rows (named_row level.parents) in
      omega (arith, ap length rows_are, filter_map_fewer (of_level level next_row) (named level), good.few)

  up : IsStrictlySortedBy (λ (a b : Row). nat_cmp a.index b.index) (map (named_row parents) sorted)
  unfolding next_rows
  up =
      let next = of_level level next_row in
      subst (IsStrictlySortedBy (λ (a b : Row). nat_cmp a.index b.index)) (sym rows_are)
      (rising_kept (λ (r : Row). r.index) next (λ row x is. (next_from level.epoch level.number (named level) row x is).index)
      (named level) good.ascending)

  pub is_level : IsLevel after
  is_level = record {
    parents = All-permutation (λ (r : RowView). r.parent < length parents) rows sorted moved so.inside;
    depth = subst (All (λ (p : Parent). length p.path ≡ level.number + 1)) (sym parents_are) (depth_more level good);
    distinct = subst (AllPairs (λ (p q : Parent). p.path ≢ q.path)) (sym parents_are) (paths_differ level good);
    ascending = up;
    few = few;
  }
