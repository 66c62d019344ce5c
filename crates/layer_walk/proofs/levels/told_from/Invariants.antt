use Rattle.layer_walk.specs.Made.{named}
use Rattle.layer_walk.proofs.SoFar.{IsHere}
use Rattle.layer_walk.proofs.levels.told_from.Given as goal

abbrev pub invariant-loop-done : goal.invariant-loop-done
invariant-loop-done g l = IsHere l.fn.first.level.epoch (named l.fn.first.level) l.fn.refusals l._done l.here l.told
