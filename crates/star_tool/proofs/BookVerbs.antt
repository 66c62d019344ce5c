-- The commands `book`, `merge` and `openbook`.
use Rattle.std.proofs.Common.{◌≡◌, ◌∙◌, ℕ, List, [], Some, refl, sym, ap, inl, true}
use Rattle.star_io.specs.declared.record.TheConstants.{MAX_RECORDS}
use Rattle.star_io.specs.Faults.{Rose}
use Rattle.star_io.specs.RecordLists.{stream_records, rest_after}
use Rattle.layer_walk.specs.Seen.{WalkView}
use Rattle.layer_walk.specs.Standing.{StandsFor}
use Rattle.layer_walk.specs.declared.revealed.Revealed.{Revealed}
use Rattle.reveal_report.specs.RevealText.{text_of}
use Rattle.book_file.specs.Book.{Book}
use Rattle.book_file.specs.BookOf.{book_of, bodies_of}
use Rattle.book_file.specs.Spelling.{spelling}
use Rattle.book_merge.specs.Merging.{merge_rest, IsSum, HasFault}
use Rattle.book_merge.specs.Records.{records_of}
use Rattle.book_merge.specs.declared.fault.MergeError.{MergeError}
use Rattle.book_merge.specs.declared.fault.MergeError.TheVariants as merge_error
use Rattle.book_merge.specs.declared.fault.MergeFault.TheVariants as merge_fault
use Rattle.command_words.specs.declared.command.Command.{Command}
use Rattle.command_words.specs.declared.command.Command.TheVariants.{Book as BookCommand, Merge, OpenBook}
use Rattle.star_tool.specs.declared.status.Status.{Status}
use Rattle.star_tool.specs.declared.status.Status.TheVariants.{TooMany, BadBook, BookEpoch}
use Rattle.star_tool.specs.Commands.{reads}
use Rattle.star_tool.specs.Run.{IsOutput, IsRefused, Reason}
use Rattle.star_tool.specs.Seen.{Seen}
use Rattle.star_tool.specs.Status.{merge_status}
use Rattle.star_tool.specs.Verbs.Merge.{refusal_in, merge_refusal, of_sum}
use Rattle.star_tool.specs.Verbs.OpenBook.{opened}
use Rattle.star_tool.proofs.Reasons.{true_and}
use Rattle.star_tool.proofs.RevealLemmas.{IsRevealOf, told_is}
use Rattle.star_tool.proofs.StreamLemmas.{stream_good}

-- the book of no record
pub book_begun : (e : ℕ) → record { epoch = e; dropped = 0; entries = [] } ≡ book_of e []
unfolding book_of bodies_of
book_begun e = refl

-- the spelling of the book of all records is the output
pub book_made : (epoch : ℕ) (input coins : Seen) (book : Book) (text : List ℕ)
    → ((bytes : List ℕ) → input.left ≡ Some bytes → (book ≡ book_of epoch (stream_records bytes)) × (rest_after MAX_RECORDS bytes ≡ []) × (input.left_after ≡ Some []))
    → text ≡ spelling book → IsOutput (BookCommand epoch) input coins text
book_made epoch input coins book text all made = λ bytes here.
    let read = all bytes here in
    (stream_good bytes read.1, read.2, ([], tt, made ∙ ap spelling read.0))

-- that of the sum is the output
pub merge_made : (epoch : ℕ) (input coins : Seen) (sum : Book) (text : List ℕ) → IsSum epoch input.left input.left_after sum → text ≡ spelling sum → IsOutput (Merge epoch) input coins text
merge_made epoch input coins sum text is made = λ bytes here.
    let read = is bytes here in
    (ap refusal_in read.0, read.1, ([], tt, made ∙ sym (ap (of_sum spelling) read.0)))

-- and so is the text of what its records tell
pub open_book_made : (epoch workers : ℕ) (input coins : Seen) (sum : Book) (walk : WalkView) (told : Revealed) (text : List ℕ) → IsSum epoch input.left input.left_after sum → sum.epoch ≡ epoch → walk.epoch ≡ sum.epoch
    → StandsFor walk (records_of sum) → IsRevealOf walk told → text ≡ text_of told → IsOutput (OpenBook epoch workers) input coins text
open_book_made epoch workers input coins sum walk told text is of_epoch same stands tells made = λ bytes here.
    let read = is bytes here in
    (ap refusal_in read.0, read.1, ([], tt, made ∙ ap text_of (told_is walk told epoch (records_of sum) (same ∙ of_epoch) tells stands) ∙ sym (ap (of_sum (opened epoch)) read.0)))

-- why books have no sum
pub merge_reason : (command : Command) (epoch : ℕ) (input coins : Seen) (error : MergeError) → reads command ≡ true
    → ((status : Status) → ((bytes : List ℕ) → input.left ≡ Some bytes → (merge_refusal epoch bytes ≡ Some status) × (input.left_after ≡ Some (merge_rest bytes))) → IsRefused command input status)
    → HasFault epoch input.left input.left_after error → (error ≡ merge_error.Read → Rose input.faults input.faults_after) → Reason command input coins (merge_status error)
merge_reason command epoch input coins merge_error.Read reading refused has read = inl (true_and (reads command) (Rose input.faults input.faults_after) reading (read refl))
merge_reason command epoch input coins (merge_error.Fault merge_fault.TooMany) reading refused has read = refused TooMany (λ bytes told. let why = has bytes told in (ap refusal_in why.0, why.1))
merge_reason command epoch input coins (merge_error.Fault (merge_fault.BadBook book kind at)) reading refused has read = refused (BadBook book kind at) (λ bytes told. let why = has bytes told in (ap refusal_in why.0, why.1))
merge_reason command epoch input coins (merge_error.Fault (merge_fault.BookEpoch book have)) reading refused has read = refused (BookEpoch book have) (λ bytes told. let why = has bytes told in (ap refusal_in why.0, why.1))
merge_reason command epoch input coins merge_error.NoMemory reading refused has read = tt
