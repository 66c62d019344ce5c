-- The command `epochs`.
use Rattle.std.proofs.Common.{◌≡◌, ◌∙◌, ℕ, List, [], ap}
use Rattle.star_io.specs.declared.record.Record.{Record}
use Rattle.star_io.specs.declared.record.TheConstants.{MAX_RECORDS}
use Rattle.star_io.specs.RecordLists.{stream_records}
use Rattle.star_io.proofs.Streams.{HasAll}
use Rattle.epoch_walk.specs.Epochs.{epochs_told}
use Rattle.epoch_walk.specs.declared.epochs_out.EpochsOut.{EpochsOut}
use Rattle.command_words.specs.declared.command.Command.TheVariants.{Epochs}
use Rattle.star_tool.specs.EpochsText.{epochs_text_of}
use Rattle.star_tool.specs.Run.{IsOutput}
use Rattle.star_tool.specs.Seen.{Seen}
use Rattle.star_tool.proofs.StreamLemmas.{stream_good}

-- the text of what all records tell for each of their epochs is the output
pub epochs_made : (fact : List Record → Type 0) (workers : ℕ) (input coins : Seen) (told : EpochsOut) (text : List ℕ)
    → HasAll MAX_RECORDS fact input.left input.left_after → ((records : List Record) → fact records → told ≡ epochs_told records)
    → text ≡ epochs_text_of told → IsOutput (Epochs workers) input coins text
epochs_made fact workers input coins told text all tells is = λ bytes here.
    let read = all bytes here in
    (stream_good bytes read.1, read.2, ([], tt, is ∙ ap epochs_text_of (tells (stream_records bytes) read.0)))
