use Rattle.std.proofs.Common.{◌≡◌, ◌<◌, ◌++◌, ℕ, [], length, get_or}
use Rattle.report_frame.specs.declared.version.Version.TheVariants.{One}
use Rattle.client_table.specs.Left.{IsBetweenRecords, left}
use Rattle.client_table.specs.Table.{IsRow}
use Rattle.client_table.proofs.read.read_rows.Given as goal

abbrev pub invariant-rows : goal.invariant-rows
invariant-rows l = record {
  all : l.table ++ left l.records ≡ left l.fn.records;
  count : length l.table ≡ l.row;
  good : (k : ℕ) → k < l.row → IsRow One l.width (get_or l.table k []);
  between : IsBetweenRecords l.records;
}
