use Rattle.std.proofs.Common.{◌≡◌, ◌++◌, map}
use Rattle.layer_walk.specs.Kept.{adopt}
use Rattle.layer_walk.proofs.held.adopt_all.Given as goal

abbrev pub invariant-loop-inner : goal.invariant-loop-inner
invariant-loop-inner l = l.rows.items ≡ l.initial.rows.items ++ map (adopt l.parent) l.yielded
