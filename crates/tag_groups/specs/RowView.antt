-- What a row is seen as.
use Rattle.std.specs.Prelude.{◌≡◌, ℕ, List, [], Result, Ok, Err}
use Rattle.report_frame.specs.Frame.{Fields, IsFrame}
use Rattle.report_frame.specs.Reading.{decoded, fields_from}
use Rattle.report_frame.specs.declared.fault.Fault.{Fault}

-- a report with the number of its record, and the number of the group of the level before in which it was nested
pub record RowView : Type 0 where
  pub index : ℕ
  pub parent : ℕ
  pub report : Fields

-- the report; if there is none, which one it is isn't said anywhere
abbrev pub report_or_none : Result Fields Fault → Fields
report_or_none (Ok report) = report
report_or_none (Err fault) = fields_from []

-- the report whose frame the bytes are
abbrev pub report_in : List ℕ → Fields
report_in bytes = report_or_none (decoded bytes)

-- the bytes are a frame, and are read as its report
pub record IsRead (bytes : List ℕ) : Type 0 where
  pub is_frame : IsFrame (report_in bytes) bytes
  pub decodes : decoded bytes ≡ Ok (report_in bytes)
