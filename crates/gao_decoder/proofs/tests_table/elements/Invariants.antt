use Rattle.std.proofs.Common.{◌≡◌, length}
use Rattle.gao_decoder.proofs.tests_table.elements.Given as goal

abbrev pub invariant-elements : goal.invariant-elements
invariant-elements l = length l.ys.items ≡ l.i
