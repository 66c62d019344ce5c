use Rattle.std.proofs.Common.{◌<◌, take, All}
use Rattle.field61.specs.declared.TheConstants.{MODULUS}
use Rattle.shamir_limbs.specs.declared.share.Point.{Point}
use Rattle.open_cert.proofs.numbers.know_elements.Given as goal

abbrev pub invariant-loop-point : goal.invariant-loop-point
invariant-loop-point l = All (λ (p : Point). p.x < MODULUS) (take l.point-index l.points)
