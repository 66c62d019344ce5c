-- The row of bytes.
use Rattle.std.specs.Prelude.{ℕ, List, Result, Ok, Err}
use Rattle.report_frame.specs.Frame.{Fields}
use Rattle.report_frame.specs.Reading.{decoded}
use Rattle.report_frame.specs.declared.fault.Fault.{Fault}
use Rattle.tag_groups.specs.RowView.{RowView}
use Rattle.tag_groups.specs.declared.row.BadRow.{BadRow}

-- what bytes give of which reading gives this
abbrev pub row_with : ℕ → ℕ → List ℕ → Result Fields Fault → Result RowView BadRow
row_with index parent bytes (Ok report) = Ok (record { index = index; parent = parent; report = report })
row_with index parent bytes (Err fault) = Err (record { frame = bytes; fault = fault })

-- the row if the bytes are a frame, otherwise the bytes with their fault
abbrev pub row_from : ℕ → ℕ → List ℕ → Result RowView BadRow
row_from index parent bytes = row_with index parent bytes (decoded bytes)
