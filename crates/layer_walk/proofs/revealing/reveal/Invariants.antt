use Rattle.std.proofs.Common.{take}
use Rattle.layer_walk.proofs.Firsts.{IsTaken}
use Rattle.layer_walk.proofs.revealing.reveal.Given as goal

abbrev pub invariant-loop-item : goal.invariant-loop-item
invariant-loop-item g l = IsTaken l.epoch (take l.item-index l.records) l.walk
