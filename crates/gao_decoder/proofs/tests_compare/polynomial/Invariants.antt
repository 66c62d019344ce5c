use Rattle.std.proofs.Common.{◌≡◌, length}
use Rattle.gao_decoder.proofs.tests_compare.polynomial.Given as goal

abbrev pub invariant-loop-i : goal.invariant-loop-i
invariant-loop-i l = length l.f ≡ l.k
