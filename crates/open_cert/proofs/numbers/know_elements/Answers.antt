use Rattle.std.proofs.Common.{◌<◌, subst, All}
use Rattle.std.proofs.lemmas.List.{take_all}
use Rattle.std.proofs.lemmas.List.Elements.{All-more, All-map}
use Rattle.field61.specs.declared.TheConstants.{MODULUS}
use Rattle.shamir_limbs.specs.declared.share.Point.{Point}
use Rattle.open_cert.proofs.numbers.know_elements.Goals as goal

pub loop-point-preserved : goal.loop-point-preserved
loop-point-preserved c =
    All-more (λ (p : Point). p.x < MODULUS) c.args.points.now c.loop-point.point-index c.point-item.result c.loop-point-test.true c.loop-point.invariant
    (subst (λ (p : Point). p.x < MODULUS) c.point-item.is c.know_element.ensures)

pub returns : goal.returns
returns c =
    All-map (λ x. x < MODULUS) (λ (p : Point). p.x) c.args.points.now
    (subst (All (λ (p : Point). p.x < MODULUS)) (take_all c.loop-point.point-index c.args.points.now c.loop-point-test.false) c.loop-point.invariant)
