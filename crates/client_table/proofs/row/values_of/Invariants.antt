use Rattle.std.proofs.Common.{◌≡◌, ◌<◌, ℕ, false, take}
use Rattle.csv.specs.Records.{fields_of}
use Rattle.report_frame.specs.declared.version.Version.{Version}
use Rattle.client_table.specs.Table.{is_bad_at}
use Rattle.client_table.proofs.row.values_of.Given as goal

abbrev pub invariant-columns : goal.invariant-columns
invariant-columns l = record {
  cells : l.row.items ≡ take l.column (fields_of l.cells);
  good : (version : Version) (k : ℕ) → k < l.column → is_bad_at version l.width (fields_of l.cells) k ≡ false;
}
