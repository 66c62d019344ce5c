use Rattle.poly61.specs.Poly.{HasDegreeBelow}
use Rattle.poly61.proofs.coefficients.places_of.Given as goal

abbrev pub invariant-loop-i : goal.invariant-loop-i
invariant-loop-i l = HasDegreeBelow l.coefficients l.i
