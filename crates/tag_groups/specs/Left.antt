-- The points left of a group.
use Rattle.std.specs.Prelude.{ℕ, Bool, ◌==◌, ◌||◌, not, List, [], ◌∷◌, filter, slice_get}
use Rattle.std.specs.List.{list_all, filter_map}
use Rattle.std.specs.Str.{bytes_eq}
use Rattle.std.specs.Ordering.{nat_cmp}
use Rattle.std.specs.declared.cmp.Ordering.{Ordering}
use Rattle.std.specs.Option.{option_map}
use Rattle.report_frame.specs.Frame.{Fields}
use Rattle.shamir_limbs.specs.declared.share.Point.{Point}
use Rattle.tag_groups.specs.RowView.{RowView}
use Rattle.star_lists.specs.Ascending.{ascending}

-- the order of points by x alone
abbrev pub x_cmp : Point → Point → Ordering
x_cmp a b = nat_cmp a.x b.x

-- no point has the same x with another y
abbrev pub is_lone : List Point → Point → Bool
is_lone points p = list_all (λ q. not (q.x == p.x) || bytes_eq q.y p.y) points

-- of each x that has no two y, its point, in ascending x
unfoldable pub points_left_of : List Point → List Point
points_left_of points = filter (is_lone points) (ascending x_cmp points)

-- the point of a report
abbrev pub point_of : Fields → Point
point_of r = record { x = r.x; y = r.y0 ∷ r.y1 ∷ r.y2 ∷ [] }

-- the points of the rows at these places
abbrev pub points_at : List RowView → List ℕ → List Point
points_at rows members = filter_map (λ place. option_map (λ (row : RowView). point_of row.report) (slice_get rows place)) members
