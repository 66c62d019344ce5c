use Rattle.std.proofs.Common.{take}
use Rattle.poly61.proofs.Lists.{value-same, take-same}
use Rattle.poly61.proofs.poly.Poly.value_at.Goals as goal

pub returns-then-self-le-FEW_PLACES-clause-value : goal.returns-then-self-le-FEW_PLACES-clause-value
returns-then-self-le-FEW_PLACES-clause-value c =
    let items = c.self.inside.coefficients.items in
    let same = value-same (take c.self.inside.places items) items c.args.x (take-same c.self.inside.places items c.self.invariant.below) in
    cc
