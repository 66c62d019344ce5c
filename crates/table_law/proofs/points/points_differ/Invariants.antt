use Rattle.std.proofs.Common.{◌≡◌, ◌≢◌, ℕ, ◌<◌, [], get_or, slice_index}
use Rattle.table_law.proofs.FirstPlaces.{HasFirsts}
use Rattle.table_law.proofs.Marks.{point_cmp, point_mark}
use Rattle.table_law.proofs.points.points_differ.Given as goal

abbrev pub invariant-rows : goal.invariant-rows
invariant-rows l = record {
  places : HasFirsts point_cmp (point_mark l.points l.layer l.firsts) l.i l.places;
  differ : (i j : ℕ) → i < j → j < l.i → slice_index l.firsts i ≡ slice_index l.firsts j → slice_index (get_or l.points i []) l.layer ≢ slice_index (get_or l.points j []) l.layer;
}
