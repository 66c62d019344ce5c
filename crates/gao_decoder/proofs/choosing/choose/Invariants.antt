use Rattle.std.proofs.Common.{◌+◌, ◌≤◌, ◌≡◌, length}
use Rattle.poly61.specs.Poly.{HasDegreeBelow}
use Rattle.gao_decoder.specs.Choosing.{IsChosen}
use Rattle.gao_decoder.proofs.choosing.choose.Given as goal

abbrev pub invariant-loop-i : goal.invariant-loop-i
invariant-loop-i l = record {
  room : length l.candidate ≡ length l.fn.candidate;
  work_room : length l.work ≡ length l.fn.work;
  within : l.chosen ≤ l.k;
  below : HasDegreeBelow l.candidate l.chosen;
  work_below : HasDegreeBelow l.work (l.chosen + 1);
  chosen : IsChosen l.xs l.ys l.w l.candidate l.work l.i l.chosen l.k;
}
