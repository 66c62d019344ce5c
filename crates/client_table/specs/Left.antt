-- The records that a reader of a table has left.
use Rattle.std.specs.Prelude.{◌≡◌, ◌+◌, ℕ, false, List, [], length, Option, Some, None, IsSome}
use Rattle.std.specs.Borrow.{Bor}
use Rattle.csv.specs.Machine.{ends_at_end}
use Rattle.csv.specs.Reading.{default_config, records_from, source_of, Ready}
use Rattle.csv.specs.declared.parser.State.{State}
use Rattle.csv.specs.declared.reader.Reader.{Reader}
use Rattle.csv.specs.declared.reader.Trim.TheVariants as trim

-- the bytes that the next read reads from
abbrev pub unread : Reader (Bor (List ℕ)) → Option (List ℕ)
unread reader = source_of (λ bytes. Some bytes.now) reader

-- the records of these bytes from a state on, if they are known
abbrev pub records_after : State → Option (List ℕ) → List (List (List ℕ))
records_after state None = []
records_after state (Some bytes) = records_from default_config (length bytes + 1) state bytes

-- the records that a reader has left
abbrev pub left : Reader (Bor (List ℕ)) → List (List (List ℕ))
left reader = records_after reader.state (unread reader)

-- a reader with the settings of a table is between two records
pub record IsBetweenRecords (reader : Reader (Bor (List ℕ))) : Type 0 where
  pub untrimmed : reader.trim ≡ trim.None
  pub headless : Ready reader
  pub settings : reader.config ≡ default_config
  pub known : IsSome (unread reader)
  pub between : ends_at_end reader.state ≡ false
