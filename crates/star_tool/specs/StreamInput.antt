-- The input of a command that reads a stream of records.
use Rattle.std.specs.Prelude.{ℕ, List, length, drop, Option, Some, None, nat_lt, if◌then◌else◌}
use Rattle.star_io.specs.declared.record.TheConstants.{MAX_RECORDS}
use Rattle.star_io.specs.RecordLists.{rest_after}
use Rattle.star_tool.specs.declared.status.Status.{Status}
use Rattle.star_tool.specs.declared.status.Status.TheVariants.{TooMany}

-- a byte follows the last record that is read
abbrev pub stream_refusal : (bytes : List ℕ) → Option Status
stream_refusal bytes = if nat_lt 0 (length (rest_after MAX_RECORDS bytes)) then Some TooMany else None

-- what is left of an input that is refused: of what follows the records one byte is taken
abbrev pub stream_rest : (bytes : List ℕ) → List ℕ
stream_rest bytes = drop 1 (rest_after MAX_RECORDS bytes)
