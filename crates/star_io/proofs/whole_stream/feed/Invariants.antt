use Rattle.std.proofs.Common.{◌≡◌, ◌≤◌, ◌+◌}
use Rattle.std.specs.Prelude.{◌≢◌}
use Rattle.star_io.specs.declared.reader.ReaderState.TheVariants.{Broken}
use Rattle.star_io.proofs.Streams.{HasFed, TakesAll}
use Rattle.star_io.proofs.whole_stream.feed.Given as goal

abbrev pub invariant-loop : goal.invariant-loop
invariant-loop g l = record {
  sound : l.reader ≢ Broken;
  count : g.T.RecordTaker.taken l.taker ≡ g.T.RecordTaker.taken l.initial.taker + l.counter;
  fed : HasFed (TakesAll (g.T.RecordTaker.stands l.initial.taker) (g.T.RecordTaker.stands l.taker)) l.counter l.reader
      (g.S.Source.left l.initial.input) (g.S.Source.left l.input);
  faults : g.S.Source.faults l.initial.input ≤ g.S.Source.faults l.input;
}
