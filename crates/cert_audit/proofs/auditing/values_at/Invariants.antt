use Rattle.std.proofs.Common.{◌≡◌, drop}
use Rattle.shamir_limbs.specs.KeyLine.{value}
use Rattle.cert_audit.proofs.auditing.values_at.Given as goal

abbrev pub invariant-loop-i : goal.invariant-loop-i
invariant-loop-i l = record { first : l.y0 ≡ value (drop l.i l.first) l.x; second : l.y1 ≡ value (drop l.i l.second) l.x; third : l.y2 ≡ value (drop l.i l.third) l.x }
