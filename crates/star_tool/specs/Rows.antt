-- The rows of a table of either version.
use Rattle.std.specs.Prelude.{◌≡◌, ℕ, ◌<◌, ◌≤◌, List, [], length, get_or}
use Rattle.report_frame.specs.declared.version.Version.{Version}
use Rattle.report_frame.specs.declared.version.Version.TheVariants as version
use Rattle.nest_client.specs.Stream.{table_frames, table2_frames}
use Rattle.client_table.specs.Table.{table_of, table2_of}
use Rattle.client_table.specs.declared.read.TheConstants.{MAX_ROWS}
use Rattle.star_tool.specs.declared.verbs.make.rows.Rows.{Rows}
use Rattle.star_tool.specs.declared.verbs.make.rows.Rows.TheVariants.{One, Two}

-- the rows of a text, each with so many values
abbrev pub rows_of : Version → (width : ℕ) → (bytes : List ℕ) → Rows
rows_of version.One width bytes = One (table_of bytes)
rows_of version.Two width bytes = Two (table2_of width bytes)

-- their version
abbrev pub version_of : Rows → Version
version_of (One rows) = version.One
version_of (Two rows) = version.Two

-- the frames of their reports, row i as client i
abbrev pub frames_of : Rows → (thresholds : List ℕ) → (epoch : ℕ) → (seed : List ℕ) → List (List ℕ)
frames_of (One rows) thresholds epoch seed = table_frames rows thresholds epoch seed
frames_of (Two rows) thresholds epoch seed = table2_frames rows thresholds epoch seed

-- each has so many values, and they are not too many
abbrev pub HaveWidth : (width : ℕ) → Rows → Type 0
HaveWidth width (One rows) =
    (length rows ≤ MAX_ROWS) × ((i : ℕ) → i < length rows → length (get_or rows i []) ≡ width)
HaveWidth width (Two rows) =
    (length rows ≤ MAX_ROWS) × ((i : ℕ) → i < length rows → length (get_or rows i ([], [])).0 ≡ width)
