-- What goes over the groups of a level makes of what they give.
use Rattle.std.specs.Prelude.{◌≡◌, ◌<◌, ℕ, List, [], ◌++◌, length, map, All, Option, Some}
use Rattle.std.specs.List.{filter_map, cons_option}
use Rattle.std.specs.List.Sorted.{IsPermutation, IsSorted, IsStable}
use Rattle.std.specs.declared.cmp.Ordering.{Ordering}
use Rattle.tag_groups.specs.RowView.{RowView}
use Rattle.tag_groups.specs.GroupView.{GroupView}
use Rattle.layer_walk.specs.declared.group.GroupOut.{GroupOut}
use Rattle.layer_walk.specs.declared.held.Children.{Children}
use Rattle.layer_walk.specs.declared.held.Held.{Held}
use Rattle.layer_walk.specs.declared.level.Level.{Level}
use Rattle.layer_walk.specs.declared.level.Parent.{Parent}
use Rattle.layer_walk.specs.declared.outcome.Outcome.{Outcome}
use Rattle.layer_walk.specs.Rows.{Row}
use Rattle.layer_walk.specs.Seen.{InnerView}
use Rattle.layer_walk.specs.Levels.{where_opened, child_row, next_row, refused_row, aux_row, by_groups}
use Rattle.layer_walk.specs.Made.{of_level, group_child, named, named_row}

-- the row that an inner report becomes under the parent of this number
abbrev pub adopt : ℕ → InnerView → RowView
adopt n inner = record { index = inner.index; parent = n; report = inner.frame }

-- the group as a parent, where it comes out so
abbrev pub child_under : Level → GroupView → Outcome → Option Parent
child_under level group outcome = where_opened (λ value agree. Some (group_child level group value)) outcome

-- The groups of these rows, where they are opened, are these parents, and these are the rows that their members hold.
pub record AreChildren (level : Level) (firsts : List Row) (parents : List Parent) (rows : List RowView) : Type 0 where
  pub parents_are : parents ≡ filter_map (of_level level child_row) firsts
  pub inside : All (λ (row : RowView). row.parent < length parents) rows
  pub rows_are : map (named_row parents) rows ≡ by_groups (of_level level next_row) (named level) firsts

-- what the members of the groups of these rows hold
pub record IsHeld (level : Level) (firsts : List Row) (held : Held) : Type 0 where
  pub children : AreChildren level firsts held.children.parents held.children.rows.items
  pub refusals : held.refusals.items ≡ by_groups (of_level level refused_row) (named level) firsts
  pub aux : held.aux.items ≡ by_groups (of_level level aux_row) (named level) firsts

-- One more group is the last parent, where it comes out so, and these are the last rows.
pub record AdoptsMore (level : Level) (group : GroupView) (outcome : Outcome) (inners : List InnerView) (old new : Children) : Type 0 where
  pub parents : new.parents ≡ old.parents ++ cons_option (child_under level group outcome) []
  pub rows : new.rows.items ≡ old.rows.items ++ map (adopt (length old.parents)) inners

-- and what the members of one more group hold
pub record HoldsMore (level : Level) (group : GroupView) (out : GroupOut) (old new : Held) : Type 0 where
  pub children : AdoptsMore level group out.outcome out.inner old.children new.children
  pub refusals : new.refusals.items ≡ old.refusals.items ++ out.refusals
  pub aux : new.aux.items ≡ old.aux.items ++ out.aux

-- the same elements, in ascending order, those that tie in the order in which they stood
pub record IsSortOf {X : Type 0} (c : X → X → Ordering) (xs ys : List X) : Type 0 where
  pub moved : IsPermutation xs ys
  pub rises : IsSorted c ys
  pub stable : IsStable c xs ys
