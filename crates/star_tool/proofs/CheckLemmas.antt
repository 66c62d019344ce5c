-- The command `check`.
use Rattle.std.proofs.Common.{◌≡◌, ℕ, List, []}
use Rattle.star_io.specs.declared.record.Record.{Record}
use Rattle.star_io.specs.declared.record.TheConstants.{MAX_RECORDS}
use Rattle.star_io.specs.RecordLists.{stream_records}
use Rattle.star_io.proofs.Streams.{HasAll}
use Rattle.command_words.specs.declared.command.Command.TheVariants.{Check}
use Rattle.star_tool.specs.CheckText.{check_text_of}
use Rattle.star_tool.specs.Run.{IsOutput}
use Rattle.star_tool.specs.Seen.{Seen}
use Rattle.star_tool.proofs.StreamLemmas.{stream_good}

-- the lines of all records are the output
pub check_made : (fact : List Record → Type 0) (input coins : Seen) (text : List ℕ) → HasAll MAX_RECORDS fact input.left input.left_after
    → ((records : List Record) → fact records → text ≡ check_text_of records) → IsOutput Check input coins text
check_made fact input coins text all is = λ bytes told.
    let read = all bytes told in
    (stream_good bytes read.1, read.2, ([], tt, is (stream_records bytes) read.0))
