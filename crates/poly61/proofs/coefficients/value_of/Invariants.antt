use Rattle.std.proofs.Common.{◌≡◌, drop}
use Rattle.poly61.specs.Poly.{value}
use Rattle.poly61.proofs.coefficients.value_of.Given as goal

abbrev pub invariant-loop-i : goal.invariant-loop-i
invariant-loop-i l = l.sum ≡ value (drop l.i l.coefficients) l.x
