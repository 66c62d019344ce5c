use Rattle.std.proofs.Common.{subst}
use Rattle.std.specs.Prelude.{All}
use Rattle.std.proofs.lemmas.List.{take_all}
use Rattle.std.proofs.lemmas.List.Elements.{All-more}
use Rattle.cert_audit.specs.Certificate.{IsPoint}
use Rattle.cert_audit.proofs.ranges.know_points.Goals as goal

pub loop-point-preserved : goal.loop-point-preserved
loop-point-preserved c =
    All-more IsPoint c.args.points.now c.loop-point.point-index c.point-item.result c.loop-point-test.true c.loop-point.invariant
    (subst IsPoint c.point-item.is c.know_point.ensures)

pub returns : goal.returns
returns c = subst (All IsPoint) (take_all c.loop-point.point-index c.args.points.now c.loop-point-test.false) c.loop-point.invariant
