use Rattle.std.proofs.Common.{◌≡◌, ◌++◌, take}
use Rattle.cert_audit.specs.Certificate.{point_bytes}
use Rattle.cert_audit.proofs.spell.spell_points.Given as goal

abbrev pub invariant-loop-point : goal.invariant-loop-point
invariant-loop-point l = l.bytes.items ≡ l.fn.bytes.items ++ point_bytes (take l.point-index l.points)
