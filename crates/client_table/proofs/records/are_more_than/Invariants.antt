use Rattle.std.proofs.Common.{◌≡◌, ◌+◌, length}
use Rattle.client_table.specs.Left.{IsBetweenRecords, left}
use Rattle.client_table.proofs.records.are_more_than.Given as goal

abbrev pub invariant-taken : goal.invariant-taken
invariant-taken l = record { count : l.taken + length (left l.records) ≡ length (left l.fn.records); between : IsBetweenRecords l.records }
