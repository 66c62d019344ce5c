use Rattle.std.proofs.Common.{◌≡◌}
use Rattle.table_law.specs.Prefixes.{path_to}
use Rattle.table_law.proofs.prefixes.path_to.Given as goal

abbrev pub invariant-layers : goal.invariant-layers
invariant-layers l = l.path ≡ path_to l.thresholds l.layer l.row
