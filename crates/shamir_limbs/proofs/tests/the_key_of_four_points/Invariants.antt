use Rattle.std.proofs.Common.{◌≡◌}
use Rattle.shamir_limbs.proofs.tests.the_key_of_four_points.Given as goal

abbrev pub invariant-loop-a : goal.invariant-loop-a
invariant-loop-a g l = l.work ≡ 4
