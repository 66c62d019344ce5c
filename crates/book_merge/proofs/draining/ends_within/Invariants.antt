use Rattle.std.proofs.Common.{◌+◌, ◌-◌, ◌≡◌, ◌≤◌, ℕ, List, length}
use Rattle.std.specs.Io.KnownBytes.{Consumes}
use Rattle.book_merge.proofs.draining.ends_within.Given as goal

abbrev pub invariant-loop-dropped : goal.invariant-loop-dropped
invariant-loop-dropped g l = record {
  most : l.dropped ≤ l.room + 1;
  taken : (bytes : List ℕ) × (length bytes ≡ l.dropped) × Consumes (g.S.Source.left l.initial.input) (g.S.Source.left l.input) bytes;
  faults : g.S.Source.faults l.initial.input ≤ g.S.Source.faults l.input;
}

abbrev pub decreases-loop-dropped : goal.decreases-loop-dropped
decreases-loop-dropped g l = l.room + 1 - l.dropped
