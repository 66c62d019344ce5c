use Rattle.std.proofs.Common.{◌≡◌, ◌+◌, ◌++◌, List, replicate}
use Rattle.star_io.specs.declared.record.Record.{Record}
use Rattle.star_io.specs.declared.record.Record.TheVariants.{Whole}
use Rattle.layer_walk.specs.Standing.{StandsFor}
use Rattle.star_tool.proofs.book_walk.take_often.Given as goal

abbrev pub invariant-loop : goal.invariant-loop
invariant-loop l = record {
  epoch : l.walk.epoch ≡ l.initial.walk.epoch;
  taken : l.walk.taken ≡ l.initial.walk.taken + l.counter;
  stands : (records : List Record) → StandsFor l.initial.walk records → StandsFor l.walk (records ++ replicate l.counter (Whole l.frame));
}
