use Rattle.std.proofs.Common.{◌≡◌, ◌++◌, take}
use Rattle.table_law.proofs.Growing.{shown}
use Rattle.table_law.proofs.prefixes.push_prefixes.Given as goal

abbrev pub invariant-rows : goal.invariant-rows
invariant-rows l = l.groups.items ≡ l.fn.groups.items ++ shown l.table l.thresholds l.layers (take l.i l.table)
