use Rattle.std.proofs.Common.{take}
use Rattle.std.specs.Prelude.{All}
use Rattle.cert_audit.specs.Certificate.{IsPoint}
use Rattle.cert_audit.proofs.ranges.know_points.Given as goal

abbrev pub invariant-loop-point : goal.invariant-loop-point
invariant-loop-point l = All IsPoint (take l.point-index l.points)
