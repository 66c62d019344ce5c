use Rattle.gao_decoder.proofs.halving.levels_for.Given as goal

abbrev pub decreases-loop-points : goal.decreases-loop-points
decreases-loop-points l = l.points
