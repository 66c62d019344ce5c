use Rattle.std.proofs.Common.{arith, ◌≡◌, sym, subst}
use Rattle.std.proofs.Math.ListN.{set}
use Rattle.poly61.specs.Poly.{HasDegreeBelow}
use Rattle.gao_decoder.proofs.Decoded.{set_one, first_neighbours}
use Rattle.gao_decoder.proofs.sequence.Remainders.begin.Goals as goal

pub returns-clause-start : goal.returns-clause-start
returns-clause-start c =
    let lower_cofactor = c.set_coefficient.new.self in
    let one = set_one c.clear-2.new.self c.clear-2.ensures.zero (omega (arith, c.clear-2.ensures.room, c.requires.rooms.lower_cofactor, c.requires.room)) in
    let is : lower_cofactor ≡ set c.clear-2.new.self 0 1 = cc in
    first_neighbours c.args.problem.now.xs.now c.args.problem.now.ys.now c.vanishing.new.self c.clear.new.self c.interpolate.new.self lower_cofactor c.know_elements.ensures c.interpolate.ensures.values c.interpolate.ensures.below
    c.vanishing.ensures.product c.clear.ensures.zero (rw is one.0) (subst (λ f. HasDegreeBelow f 1) (sym is) one.1)
