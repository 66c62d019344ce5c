use Rattle.epoch_walk.proofs.Telling.{SoFar}
use Rattle.epoch_walk.proofs.revealing.parts_of.Given as goal

abbrev pub invariant-loop-epoch : goal.invariant-loop-epoch
invariant-loop-epoch g l = SoFar l.fn.walks.entries l.epoch-iterator l.parts
