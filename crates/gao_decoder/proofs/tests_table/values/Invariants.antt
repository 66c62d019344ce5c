use Rattle.std.proofs.Common.{◌≡◌, length}
use Rattle.gao_decoder.proofs.tests_table.values.Given as goal

abbrev pub invariant-coefficients : goal.invariant-coefficients
invariant-coefficients l = length l.f ≡ l.k

abbrev pub invariant-values : goal.invariant-values
invariant-values l = length l.ys.items ≡ l.i
