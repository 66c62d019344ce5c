use Rattle.std.proofs.Common.{arith, refl}
use Rattle.poly61.specs.Poly.{HasDegree}
use Rattle.gao_decoder.proofs.sequence.goes_on.Goals as goal

pub returns-then-degree-bound-2-clause-stops : goal.returns-then-degree-bound-2-clause-stops
returns-then-degree-bound-2-clause-stops c i past =
    let degree : HasDegree c.args.lower.now c.in-Some.degree = (c.in-Some.ensures.some c.in-Some.degree).0 refl in
    degree.above i (omega (arith, c.if-degree-bound.true, c.if-degree-bound-2.true, past))

pub returns-else-degree-bound-clause-degree : goal.returns-else-degree-bound-clause-degree
returns-else-degree-bound-clause-degree c = (c.in-Some.ensures.some c.in-Some.degree).0 refl
