use Rattle.std.proofs.Common.{◌≡◌}
use Rattle.shamir_limbs.proofs.tests.the_key_of_the_first_points.Given as goal

abbrev pub invariant-loop-shares : goal.invariant-loop-shares
invariant-loop-shares g l = l.work ≡ 4
