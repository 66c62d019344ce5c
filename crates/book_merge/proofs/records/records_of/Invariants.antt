use Rattle.std.proofs.Common.{◌≡◌, ◌++◌}
use Rattle.std.specs.List.{flat_map}
use Rattle.book_merge.specs.Records.{entry_records}
use Rattle.book_merge.proofs.records.records_of.Given as goal

abbrev pub invariant-loop-frame : goal.invariant-loop-frame
invariant-loop-frame l = l.records ++ flat_map entry_records l.frame-iterator ≡ flat_map entry_records l.book.entries
