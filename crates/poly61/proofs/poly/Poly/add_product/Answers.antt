use Rattle.std.proofs.Common.{arith, ◌≡◌, inl, inr, get_or}
use Rattle.poly61.proofs.Convolution.{adds_nothing}
use Rattle.poly61.proofs.poly.Poly.add_product.Goals as goal
use Rattle.poly61.proofs.poly.Poly.add_product.Goals.{then-f-eq0-via-then-f-eq0, then-f-eq0-via-else-f-eq0+then-g-eq0}

pub returns-then-f-eq0-clause-product : goal.returns-then-f-eq0-clause-product
returns-then-f-eq0-clause-product c _ = elim c.then-f-eq0.branch [
  | then-f-eq0-via-then-f-eq0 w ↦ adds_nothing c.args.self.now c.args.f.now c.args.g.now (inl (λ i. let v = c.f.view_is in let e : get_or c.f.inside.coefficients.items i 0 ≡ 0 = c.f.invariant.below i (omega (arith, w.if-f-eq0.true)) in cc))
  | then-f-eq0-via-else-f-eq0+then-g-eq0 w ↦ adds_nothing c.args.self.now c.args.f.now c.args.g.now (inr (λ i. let v = c.g.view_is in let e : get_or c.g.inside.coefficients.items i 0 ≡ 0 = c.g.invariant.below i (omega (arith, w.if-g-eq0.true)) in cc))
]
