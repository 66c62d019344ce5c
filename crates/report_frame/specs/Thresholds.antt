-- The thresholds of a report's layers.
use Rattle.std.specs.Prelude.{ℕ, ◌<◌, ◌≤◌, List, length, slice_index}
use Rattle.report_frame.specs.declared.limits.TheConstants.{MIN_THRESHOLD}
use Rattle.report_frame.specs.declared.version.Version.{Version}
use Rattle.report_frame.specs.Versions.{max_layers, max_threshold}

-- one threshold for each of as many layers as the version allows, each in its range
pub record AreThresholds (version : Version) (thresholds : List ℕ) : Type 0 where
  pub some : 1 ≤ length thresholds
  pub few : length thresholds ≤ max_layers version
  pub low : (i : ℕ) → i < length thresholds → MIN_THRESHOLD ≤ slice_index thresholds i
  pub high : (i : ℕ) → i < length thresholds → slice_index thresholds i ≤ max_threshold version
