-- Rows, their groups, and the points left of a group.
use Rattle.std.specs.Prelude.{ℕ, Bool, ◌==◌, ◌&&◌, List, map, filter}
use Rattle.std.specs.Str.{bytes_eq}
use Rattle.std.specs.Cmp.Lexicographic.{pointwise}
use Rattle.report_frame.specs.Frame.{Fields}
use Rattle.report_frame.specs.View.{head_of}
use Rattle.shamir_limbs.specs.declared.share.Point.{Point}
use Rattle.star_lists.specs.FirstOnes.{first_ones}
use Rattle.tag_groups.specs.Keys.{same_version, same_head}
use Rattle.tag_groups.specs.Left.{point_of, points_left_of}
use Rattle.layer_walk.specs.declared.path.Step.{Step}
use Rattle.layer_walk.specs.declared.level.Parent.{Parent}

-- one report of a level: the number of its record, the opened group that held it, and its frame
pub record Row : Type 0 where
  pub index : ℕ
  pub parent : Parent
  pub frame : Fields

abbrev pub same_step : Step → Step → Bool
same_step a b = bytes_eq a.value b.value && ((a.k == b.k) && same_version a.version b.version)

abbrev pub same_parent : Parent → Parent → Bool
same_parent a b = pointwise same_step a.path b.path && bytes_eq a.check b.check

-- the rows have the same parent and the same head
abbrev pub same_group : Row → Row → Bool
same_group a b = same_parent a.parent b.parent && same_head (head_of a.frame) (head_of b.frame)

-- the row's group: the rows with its parent and head
abbrev pub members : List Row → Row → List Row
members rows row = filter (same_group row) rows

-- the first member of each group
abbrev pub first_members : List Row → List Row
first_members rows = first_ones same_group rows

-- the points left of the row's group
abbrev pub points_left : List Row → Row → List Point
points_left rows row = points_left_of (map (λ (r : Row). point_of r.frame) (members rows row))
