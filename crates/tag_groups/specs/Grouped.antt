-- The groups of rows.
use Rattle.std.specs.Prelude.{Bool, ◌==◌, ◌&&◌, List, map}
use Rattle.std.specs.List.{list_any}
use Rattle.report_frame.specs.View.{head_of}
use Rattle.tag_groups.specs.RowView.{RowView}
use Rattle.tag_groups.specs.GroupView.{GroupView}
use Rattle.tag_groups.specs.Keys.{same_head, same_key}
use Rattle.star_lists.specs.Places.{places}
use Rattle.star_lists.specs.FirstOnes.{first_ones}

-- the row is of this parent and this head
abbrev pub in_group : RowView → GroupView → Bool
in_group row group = (group.parent == row.parent) && same_head group.head (head_of row.report)

-- one of the groups is that of the row
abbrev pub any_group : List GroupView → RowView → Bool
any_group groups row = list_any (in_group row) groups

-- the group of the row: its parent, its head, and the places of all rows that have these
abbrev pub group_of : List RowView → RowView → GroupView
group_of rows row = record { parent = row.parent; head = head_of row.report; members = places (same_key row) rows }

-- one group for each parent and head that occurs, in the order of the first members
unfoldable pub groups_of : List RowView → List GroupView
groups_of rows = map (group_of rows) (first_ones same_key rows)
