-- The command `make`.
use Rattle.std.specs.Prelude.{◌⊎◌, ℕ, ◌+◌, ◌<◌, ◌≤◌, List, length, Option, Some, unwrap_or, option_map, nat_lt, drop, if◌then◌else◌}
use Rattle.star_io.specs.RecordLists.{stream_of}
use Rattle.report_frame.specs.declared.version.Version.{Version}
use Rattle.client_table.specs.BadPlace.{bad_place}
use Rattle.client_table.specs.Table.{table_of, IsBadTable, HasTooManyRows}
use Rattle.client_table.specs.declared.read.TheConstants.{MAX_ROWS}
use Rattle.star_tool.specs.declared.status.Status.{Status}
use Rattle.star_tool.specs.declared.status.Status.TheVariants.{TooMany, BadTable}
use Rattle.star_tool.specs.declared.verbs.make.TheConstants.{MAX_TABLE_BYTES}
use Rattle.star_tool.specs.Rows.{rows_of, frames_of}

-- too many bytes, then too many rows, then the first bad place of a table with a column for each threshold
abbrev pub make_refusal : Version → (thresholds bytes : List ℕ) → Option Status
make_refusal version thresholds bytes =
    if nat_lt MAX_TABLE_BYTES (length bytes) then Some TooMany
    else if nat_lt MAX_ROWS (length (table_of bytes)) then Some TooMany
    else option_map (λ (row, column). BadTable row column) (bad_place version (length thresholds) (table_of bytes))

-- what it leaves of an input that it refuses: it takes a byte more than a table may have
abbrev pub make_rest : (bytes : List ℕ) → List ℕ
make_rest bytes = drop (MAX_TABLE_BYTES + 1) bytes

-- the stream of the reports of the rows, by the seed that is given, or else by the one that was drawn
abbrev pub make_output : (epoch : ℕ) → Version → (thresholds : List ℕ) → (given : Option (List ℕ)) → (bytes drawn : List ℕ) → List ℕ
make_output epoch version thresholds given bytes drawn =
    stream_of (frames_of (rows_of version (length thresholds) bytes) thresholds epoch (unwrap_or given drawn))

-- ---- what a refusal means

-- there are more bytes or more rows than a table may have
abbrev pub HasTooMuch : (bytes : List ℕ) → Type 0
HasTooMuch bytes = (MAX_TABLE_BYTES < length bytes) ⊎ HasTooManyRows (table_of bytes)

-- the bytes aren't too many, and this is the first bad place of their table, which has a value for each threshold
abbrev pub HasBadCell : Version → (thresholds bytes : List ℕ) → (row column : ℕ) → Type 0
HasBadCell version thresholds bytes row column = (length bytes ≤ MAX_TABLE_BYTES) × IsBadTable version (length thresholds) (table_of bytes) row column

-- the bytes are not too much for a table, and have no bad place
pub record IsTableText (version : Version) (thresholds bytes : List ℕ) : Type 0 where
  pub few : HasTooMuch bytes → ⊥
  pub good : (row column : ℕ) → HasBadCell version thresholds bytes row column → ⊥
