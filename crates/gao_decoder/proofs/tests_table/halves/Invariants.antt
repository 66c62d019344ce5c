use Rattle.std.proofs.Common.{◌≡◌, length}
use Rattle.gao_decoder.proofs.tests_table.halves.Given as goal

abbrev pub invariant-halves : goal.invariant-halves
invariant-halves l = length l.ys.items ≡ l.i
