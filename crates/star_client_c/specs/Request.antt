-- What a caller asks for, what is wrong with it, and the report that it gets.
use Rattle.std.specs.Prelude.{ℕ, ◌≡◌, ◌≢◌, ◌⊎◌, ◌+◌, ◌*◌, ◌≤◌, ◌<◌, List, [], length, nat_eq, if◌then◌else◌}
use Rattle.report_frame.specs.declared.limits.TheConstants.{FIXED_BYTES, MAX_EXTRA}
use Rattle.report_frame.specs.declared.version.Version.TheVariants.{One}
use Rattle.report_frame.specs.Versions.{version_of}
use Rattle.report_frame.specs.Thresholds.{AreThresholds}
use Rattle.report_frame.specs.Frame.{IsFrame}
use Rattle.nest_client.specs.declared.limits.TheConstants.{MAX_REPORT_ONE, MAX_REPORT_TWO}
use Rattle.nest_client.specs.Report.{client_of, report_with}
use Rattle.star_client_c.specs.Cells.{IsRow, HasRow}
use Rattle.star_client_c.specs.declared.status.TheConstants.{BAD_VERSION, BAD_THRESHOLDS, BAD_VALUES, BAD_EXTRA, BAD_SEED, SMALL_BUFFER}

-- what a report is made from, besides the epoch and the client
pub record Request : Type 0 where
  pub version : ℕ
  pub cells : List ℕ
  pub thresholds : List ℕ
  pub extra : List ℕ

-- by its parts
abbrev pub request : ℕ → List ℕ → List ℕ → List ℕ → Request
request version cells thresholds extra = record { version = version; cells = cells; thresholds = thresholds; extra = extra }

abbrev pub HasVersion : Request → Type 0
HasVersion r = (r.version ≡ 1) ⊎ (r.version ≡ 2)

abbrev pub HasThresholds : Request → Type 0
HasThresholds r = AreThresholds (version_of r.version) r.thresholds

abbrev pub HasValues : Request → Type 0
HasValues r = HasRow r.cells (length r.thresholds)

-- version 1 has no extra bytes
abbrev pub HasExtra : Request → Type 0
HasExtra r = (length r.extra ≤ MAX_EXTRA) × (version_of r.version ≡ One → r.extra ≡ [])

-- nothing is wrong
pub record IsGood (r : Request) : Type 0 where
  pub version : HasVersion r
  pub thresholds : HasThresholds r
  pub values : HasValues r
  pub extra : HasExtra r

-- the status says what is wrong first, in the order of the numbers
abbrev pub IsFault : ℕ → Request → Type 0
IsFault status r =
    ((status ≡ BAD_VERSION) × ¬ HasVersion r)
    ⊎ ((status ≡ BAD_THRESHOLDS) × HasVersion r × ¬ HasThresholds r)
    ⊎ ((status ≡ BAD_VALUES) × HasVersion r × HasThresholds r × ¬ HasValues r)
    ⊎ ((status ≡ BAD_EXTRA) × HasVersion r × HasThresholds r × HasValues r × ¬ HasExtra r)

-- how long the report is
abbrev pub report_length : Request → ℕ
report_length r = FIXED_BYTES * length r.thresholds + length r.cells + length r.extra

-- how long a report of a version is at most
abbrev pub most_bytes : ℕ → ℕ
most_bytes version = if nat_eq version 1 then MAX_REPORT_ONE else MAX_REPORT_TWO

-- the status says what is wrong first with a request, its seed and the room for its report
abbrev pub IsMakingFault : ℕ → Request → List ℕ → ℕ → Type 0
IsMakingFault status r seed room =
    IsFault status r
    ⊎ ((status ≡ BAD_SEED) × IsGood r × (length seed ≢ 32))
    ⊎ ((status ≡ SMALL_BUFFER) × IsGood r × (length seed ≡ 32) × (room < report_length r))

-- the bytes are the frame of the report of the row with these cells
pub record IsReport (r : Request) (epoch : ℕ) (seed : List ℕ) (client : ℕ) (bytes : List ℕ) : Type 0 where
  pub row : List (List ℕ)
  pub is_row : IsRow row r.cells (length r.thresholds)
  pub frame : IsFrame (report_with (client_of (version_of r.version) epoch seed client) r.extra row r.thresholds) bytes
