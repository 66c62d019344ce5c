use Rattle.std.proofs.Common.{◌+◌, ◌*◌, ◌≤◌, length}
use Rattle.gao_decoder.specs.Sequence.{AreNeighbours, HaveRoom}
use Rattle.gao_decoder.proofs.sequence.Remainders.run_down.Given as goal

abbrev pub invariant-loop-low : goal.invariant-loop-low
invariant-loop-low l = record {
  neighbours : AreNeighbours l.xs l.ys l.self.upper l.self.upper_cofactor l.self.lower l.self.lower_cofactor l.top l.cofactor_top;
  half : length l.xs + l.k ≤ 2 * l.top;
  rooms : HaveRoom l.self (length l.fn.self.upper);
}

abbrev pub decreases-loop-low : goal.decreases-loop-low
decreases-loop-low l = l.top
