-- The records of a table, and its first bad cell.
use Rattle.std.specs.Prelude.{◌≡◌, ◌<◌, ◌≤◌, ◌+◌, ◌==◌, ◌||◌, nat_lt, ℕ, Bool, true, false, List, [], length, get_or, map, take, Option, Some, None, if◌then◌else◌}
use Rattle.csv.specs.Reading.{default_config, records, strip_bom}
use Rattle.csv.specs.Records.{field_at}
use Rattle.report_frame.specs.declared.limits.TheConstants.{MAX_VALUE, MAX_EXTRA}
use Rattle.report_frame.specs.declared.version.Version.{Version}
use Rattle.report_frame.specs.declared.version.Version.TheVariants.{One, Two}
use Rattle.client_table.specs.declared.read.TheConstants.{MAX_ROWS}

-- the records of a text: comma, double quotes, no header, any number of cells
unfoldable pub table_of : List ℕ → List (List (List ℕ))
table_of bytes = records default_config (strip_bom bytes)

-- a record as a row of version 2: a value in each of the first cells, and the extra bytes in the one after them
abbrev pub row2_of : (width : ℕ) → List (List ℕ) → List (List ℕ) × List ℕ
row2_of width cells = (take width cells, get_or cells width [])

-- the rows of a text of version 2
abbrev pub table2_of : (width : ℕ) → List ℕ → List (List (List ℕ) × List ℕ)
table2_of width bytes = map (row2_of width) (table_of bytes)

-- how many cells a record of so many values has
abbrev pub cells_of : Version → (width : ℕ) → ℕ
cells_of One width = width
cells_of Two width = width + 1

-- a cell at column c is of a bad length: a value is empty or too long, or the extra bytes of version 2 are too many
abbrev pub is_bad_length : Version → (width c : ℕ) → (size : ℕ) → Bool
is_bad_length One width c size = (size == 0) || nat_lt MAX_VALUE size
is_bad_length Two width c size = if c == width then nat_lt MAX_EXTRA size else (size == 0) || nat_lt MAX_VALUE size

-- a cell at column c is bad: it is after the last column or of a bad length, or one is due and there is none
abbrev pub is_bad_cell : Version → (width c : ℕ) → Option (List ℕ) → Bool
is_bad_cell version width c None = nat_lt c (cells_of version width)
is_bad_cell version width c (Some cell) = (c == cells_of version width) || is_bad_length version width c (length cell)

-- a record is bad at column c
abbrev pub is_bad_at : Version → (width : ℕ) → List (List ℕ) → (c : ℕ) → Bool
is_bad_at version width cells c = is_bad_cell version width c (field_at cells c)

-- a record is bad at no column
pub record IsRow (version : Version) (width : ℕ) (cells : List (List ℕ)) : Type 0 where
  pub good : (c : ℕ) → is_bad_at version width cells c ≡ false

-- the first column at which a record is bad
pub record IsFirstBad (version : Version) (width : ℕ) (cells : List (List ℕ)) (c : ℕ) : Type 0 where
  pub bad : is_bad_at version width cells c ≡ true
  pub first : (k : ℕ) → k < c → is_bad_at version width cells k ≡ false

-- there are more records than rows that a table may have
abbrev pub HasTooManyRows : List (List (List ℕ)) → Type 0
HasTooManyRows rows = MAX_ROWS < length rows

-- there are not too many records, and each is good
pub record IsTable (version : Version) (width : ℕ) (rows : List (List (List ℕ))) : Type 0 where
  pub few : length rows ≤ MAX_ROWS
  pub each : (k : ℕ) → k < length rows → IsRow version width (get_or rows k [])

-- there are not too many records, this is the first that is bad at some column, and this the first such column
pub record IsBadTable (version : Version) (width : ℕ) (rows : List (List (List ℕ))) (row column : ℕ) : Type 0 where
  pub few : length rows ≤ MAX_ROWS
  pub there : row < length rows
  pub here : IsFirstBad version width (get_or rows row []) column
  pub before : (k : ℕ) → k < row → IsRow version width (get_or rows k [])

-- some place is the first bad one
abbrev pub HasBadPlace : Version → (width : ℕ) → List (List (List ℕ)) → Type 0
HasBadPlace version width rows = (row : ℕ) × (column : ℕ) × IsBadTable version width rows row column
