-- The command `check`.
use Rattle.std.specs.Prelude.{ℕ, List}
use Rattle.star_io.specs.RecordLists.{stream_records}
use Rattle.star_tool.specs.CheckText.{check_text_of}

-- the lines of the records
abbrev pub check_output : (bytes : List ℕ) → List ℕ
check_output bytes = check_text_of (stream_records bytes)
