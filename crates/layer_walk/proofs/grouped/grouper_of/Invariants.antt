use Rattle.std.proofs.Common.{◌≡◌}
use Rattle.layer_walk.proofs.grouped.grouper_of.Given as goal

abbrev pub invariant-loop-row : goal.invariant-loop-row
invariant-loop-row l = l.grouper ≡ l.yielded
