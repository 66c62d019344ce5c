use Rattle.std.proofs.Common.{◌≡◌, ◌<◌, ◌++◌, ℕ, List, [], length, get_or, map}
use Rattle.report_frame.specs.declared.version.Version.TheVariants.{Two}
use Rattle.client_table.specs.Left.{IsBetweenRecords, left}
use Rattle.client_table.specs.Table.{row2_of, IsRow}
use Rattle.client_table.proofs.read2.read_rows2.Given as goal

abbrev pub invariant-rows : goal.invariant-rows
invariant-rows l = record {
  all : (taken : List (List (List ℕ))) × (l.table ≡ map (row2_of l.width) taken) × (taken ++ left l.records ≡ left l.fn.records) × ((k : ℕ) → k < l.row → IsRow Two l.width (get_or taken k []));
  count : length l.table ≡ l.row;
  between : IsBetweenRecords l.records;
}
