use Rattle.std.proofs.Common.{◌≡◌, ◌++◌}
use Rattle.layer_walk.proofs.held.append.Given as goal

abbrev pub invariant-loop-item : goal.invariant-loop-item
invariant-loop-item g l = l.all.items ≡ l.initial.all.items ++ l.yielded
