use Rattle.std.proofs.Common.{◌≡◌, ℕ, ◌+◌, ◌<◌, [], take, map, get_or}
use Rattle.table_law.specs.Prefixes.{value_at}
use Rattle.table_law.specs.Fronts.{first_of}
use Rattle.table_law.specs.Reveals.{IsValue}
use Rattle.table_law.proofs.FirstPlaces.{HasFirsts}
use Rattle.table_law.proofs.FrontMarks.{front_cmp, front_of}
use Rattle.table_law.proofs.fronts.longer_fronts.Given as goal

abbrev pub invariant-rows : goal.invariant-rows
invariant-rows l = record {
  places : HasFirsts front_cmp (front_of l.table l.layer l.firsts) l.i l.places;
  longer : l.longer.items ≡ map (first_of l.table (l.layer + 1)) (take l.i l.table);
  values : (j : ℕ) → j < l.i → IsValue (value_at (get_or l.table j []) l.layer);
}
