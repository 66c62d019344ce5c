use Rattle.std.proofs.Common.{◌≡◌, ◌≤◌, take}
use Rattle.shamir_limbs.specs.KeyLine.{agreement_of_all}
use Rattle.cert_audit.proofs.auditing.agreement.Given as goal

abbrev pub invariant-loop-i : goal.invariant-loop-i
invariant-loop-i l = record { is : l.count ≡ agreement_of_all l.first l.second l.third (take l.i l.points); few : l.count ≤ l.i }
