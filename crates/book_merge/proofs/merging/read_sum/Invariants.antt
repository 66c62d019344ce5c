use Rattle.std.proofs.Common.{◌≤◌}
use Rattle.book_merge.specs.declared.limits.TheConstants.{MAX_BOOKS_BYTES}
use Rattle.book_merge.proofs.Sums.{HasGone, OfEpoch}
use Rattle.book_merge.proofs.merging.read_sum.Given as goal

abbrev pub invariant-loop-number : goal.invariant-loop-number
invariant-loop-number g l = record {
  few : l.room ≤ MAX_BOOKS_BYTES;
  gone : HasGone l.epoch l.number l.room l.so_far (g.S.Source.left l.initial.input) (g.S.Source.left l.input);
  epoch : OfEpoch l.epoch l.so_far;
  faults : g.S.Source.faults l.initial.input ≤ g.S.Source.faults l.input;
}
