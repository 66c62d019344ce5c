use Rattle.std.proofs.Common.{length}
use Rattle.gao_decoder.proofs.halving.+halve.Given as goal

abbrev pub decreases-halve : goal.decreases-halve
decreases-halve l = length l.rest.now
