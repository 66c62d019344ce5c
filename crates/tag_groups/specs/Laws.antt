-- What the laws of groups and of the points left say.
use Rattle.std.specs.Prelude.{◌≡◌, ◌↔◌, ℕ, ◌<◌, true, List, length, filter}
use Rattle.std.specs.List.{All, Contains, filter_map, slice_get}
use Rattle.report_frame.specs.View.{head_of}
use Rattle.shamir_limbs.specs.declared.share.Point.{Point}
use Rattle.tag_groups.specs.RowView.{RowView}
use Rattle.tag_groups.specs.GroupView.{GroupView}
use Rattle.tag_groups.specs.Left.{is_lone, points_left_of}
use Rattle.tag_groups.specs.Grouped.{in_group}

-- the rows at the places
abbrev pub rows_at : List RowView → List ℕ → List RowView
rows_at rows members = filter_map (slice_get rows) members

-- the members are the rows with the group's parent and head
abbrev pub AreMembers : List RowView → GroupView → Type 0
AreMembers rows group = rows_at rows group.members ≡ filter (λ row. in_group row group) rows

-- each place is that of a row
abbrev pub AreInside : List RowView → GroupView → Type 0
AreInside rows group = All (λ place. place < length rows) group.members

-- the point is left exactly if it is among the points and none has its x with another y
abbrev pub IsLeft : List Point → Point → Type 0
IsLeft points p = Contains (points_left_of points) p ↔ (Contains points p × (is_lone points p ≡ true))

-- the groups differ in parent or head
abbrev pub AreApart : GroupView → GroupView → Type 0
AreApart a b = ¬ ((a.parent ≡ b.parent) × (a.head ≡ b.head))

-- a row has the group's parent and head
abbrev pub HasRow : List RowView → GroupView → Type 0
HasRow rows group = (row : RowView) × Contains rows row × (row.parent ≡ group.parent) × (head_of row.report ≡ group.head)
