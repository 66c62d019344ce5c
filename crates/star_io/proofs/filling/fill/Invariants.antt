use Rattle.std.proofs.Common.{length, take, ◌-◌, ◌≤◌}
use Rattle.std.specs.Io.KnownBytes.{Consumes}
use Rattle.star_io.proofs.filling.fill.Given as goal

abbrev pub invariant-loop-filled : goal.invariant-loop-filled
invariant-loop-filled g l = record {
  bound : l.filled ≤ length l.into;
  bytes : Consumes (g.S.Source.left l.initial.source) (g.S.Source.left l.source) (take l.filled l.into);
  faults : g.S.Source.faults l.initial.source ≤ g.S.Source.faults l.source;
}

abbrev pub decreases-loop-filled : goal.decreases-loop-filled
decreases-loop-filled g l = length l.initial.into - l.filled
