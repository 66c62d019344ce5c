-- What the version of a report decides.
use Rattle.std.specs.Prelude.{ℕ, ◌+◌, nat_eq, if◌then◌else◌}
use Rattle.report_frame.specs.declared.limits.TheConstants.{MAX_LEVEL_ONE, MAX_LEVEL_TWO, MAX_THRESHOLD_ONE, MAX_THRESHOLD_TWO, MAX_FRAME_ONE, MAX_FRAME_TWO}
use Rattle.report_frame.specs.declared.version.Version.{Version}
use Rattle.report_frame.specs.declared.version.Version.TheVariants.{One, Two}

-- the number in a frame
abbrev pub version_number : Version → ℕ
version_number One = 1
version_number Two = 2

-- the version of such a number
abbrev pub version_of : ℕ → Version
version_of number = if nat_eq number 1 then One else Two

-- the deepest level
abbrev pub max_level : Version → ℕ
max_level One = MAX_LEVEL_ONE
max_level Two = MAX_LEVEL_TWO

-- the most layers, whose levels count from 0
abbrev pub max_layers : Version → ℕ
max_layers version = max_level version + 1

-- the greatest threshold
abbrev pub max_threshold : Version → ℕ
max_threshold One = MAX_THRESHOLD_ONE
max_threshold Two = MAX_THRESHOLD_TWO

-- the most bytes of a frame
abbrev pub max_frame : Version → ℕ
max_frame One = MAX_FRAME_ONE
max_frame Two = MAX_FRAME_TWO
