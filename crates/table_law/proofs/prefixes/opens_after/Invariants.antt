use Rattle.std.proofs.Common.{◌≡◌, ◌+◌, take, map}
use Rattle.table_law.specs.Prefixes.{is_open}
use Rattle.table_law.proofs.prefixes.opens_after.Given as goal

abbrev pub invariant-rows : goal.invariant-rows
invariant-rows l = l.longer.items ≡ map (is_open l.table l.fn.thresholds (l.fn.layer + 1)) (take l.i l.table)
