use Rattle.std.proofs.Common.{◌≡◌, ◌++◌, replicate}
use Rattle.star_io.specs.declared.record.Record.TheVariants.{Whole}
use Rattle.book_merge.proofs.records.push_often.Given as goal

abbrev pub invariant-loop : goal.invariant-loop
invariant-loop l = l.records ≡ l.initial.records ++ replicate l.counter (Whole l.frame)
