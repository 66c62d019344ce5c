-- Several machines make books of their streams; `merge` and `openbook` of the joined books.
use Rattle.std.proofs.Common.{◌≡◌, ℕ, ◌≤◌, List, [], ◌∷◌, None, Ok, All, map, filter, length, sym, ap, ◌∙◌, arith, length-append}
use Rattle.std.specs.List.{flat_map, sum_by}
use Rattle.std.specs.List.Sorted.{IsPermutation}
use Rattle.std.proofs.lemmas.List.Concat.{length-flat_map}
use Rattle.std.proofs.lemmas.List.Elements.{All-cons, All-nil, All-head, All-tail}
use Rattle.std.proofs.lemmas.List.Folds.{flat_map-map}
use Rattle.std.proofs.lemmas.List.Sorted.{sum_by-IsPermutation}
use Rattle.star_io.specs.Bytes.{AreBytes}
use Rattle.star_io.specs.RecordLists.{stream_records}
use Rattle.star_io.specs.declared.record.Record.{Record}
use Rattle.star_io.specs.declared.record.TheConstants.{MAX_RECORDS}
use Rattle.star_io.proofs.RecordListLaws.{are_stream_records, rest_none}
use Rattle.star_lists.specs.Elements.{EquallyOften}
use Rattle.star_lists.proofs.Counted.{equally_long}
use Rattle.layer_walk.specs.Laws.{TellAlike}
use Rattle.layer_walk.specs.Reveal.{reveal_of}
use Rattle.reveal_report.specs.RevealText.{text_of}
use Rattle.book_file.specs.Book.{Book}
use Rattle.book_file.specs.BookOf.{book_of}
use Rattle.book_file.specs.Spelling.{spelling}
use Rattle.book_merge.specs.Machines.{FitOneBook, books_of_all, records_of_all}
use Rattle.book_merge.specs.Merging.{merged}
use Rattle.book_merge.specs.Records.{records_of}
use Rattle.book_merge.proofs.BookReveals.{book_reveals}
use Rattle.book_merge.proofs.Machines.{machines_sum}
use Rattle.book_merge.proofs.Orders.{often_turned, same_book}
use Rattle.command_words.specs.declared.command.Command.TheVariants.{Book as BookCommand, Merge, OpenBook}
use Rattle.star_tool.specs.Commands.{refusal_of, output_of}
use Rattle.star_tool.specs.Verbs.Merge.{refusal_in, of_sum}
use Rattle.star_tool.specs.Verbs.OpenBook.{opened}
use Rattle.star_tool.proofs.StreamLemmas.{stream_good}

-- the records of each machine
abbrev machines_of : List (List ℕ) → List (List Record)
machines_of streams = map stream_records streams

-- the book of the records of all machines
abbrev book_of_all : ℕ → List (List ℕ) → Book
book_of_all epoch streams = book_of epoch (records_of_all (machines_of streams))

-- what `book` writes for each stream, joined
abbrev written : ℕ → List (List ℕ) → List ℕ → List ℕ
written epoch streams seed = flat_map (λ (bytes : List ℕ). output_of (BookCommand epoch) bytes seed) streams

-- a stream of few records is not refused
pub streams_good : (epoch : ℕ) (streams : List (List ℕ)) → All AreBytes streams → FitOneBook epoch (machines_of streams) → All (λ bytes. refusal_of (BookCommand epoch) bytes ≡ None) streams
streams_good epoch streams are fit = each streams are fit.records
  where
    each : (streams : List (List ℕ)) → All AreBytes streams → length (records_of_all (machines_of streams)) ≤ MAX_RECORDS → All (λ bytes. refusal_of (BookCommand epoch) bytes ≡ None) streams
    each [] are few = All-nil (λ bytes. refusal_of (BookCommand epoch) bytes ≡ None)
    each (bytes ∷ streams) are few =
        let both = length-append (stream_records bytes) (records_of_all (machines_of streams)) in
        let own : AreBytes bytes = All-head AreBytes bytes streams are in
        let none = rest_none MAX_RECORDS (stream_records bytes) bytes (are_stream_records bytes own) (omega (arith, few, both)) in
        All-cons (λ bytes. refusal_of (BookCommand epoch) bytes ≡ None) bytes streams (stream_good bytes none) (each streams (All-tail AreBytes bytes streams are) (omega (arith, few, both)))

sum_is : (epoch : ℕ) (streams : List (List ℕ)) (seed : List ℕ) → FitOneBook epoch (machines_of streams) → merged epoch (written epoch streams seed) ≡ Ok (book_of_all epoch streams)
sum_is epoch streams seed fit =
    ap (merged epoch) (sym (flat_map-map (λ (records : List Record). spelling (book_of epoch records)) stream_records streams))
    ∙ machines_sum epoch (machines_of streams) fit

-- `merge` of the joined books writes the book of all records
pub machines_merged : (epoch : ℕ) (streams : List (List ℕ)) (seed : List ℕ) → FitOneBook epoch (machines_of streams)
    → (refusal_of (Merge epoch) (written epoch streams seed) ≡ None) × (output_of (Merge epoch) (written epoch streams seed) seed ≡ spelling (book_of_all epoch streams))
machines_merged epoch streams seed fit = let is = sum_is epoch streams seed fit in (ap refusal_in is, ap (of_sum spelling) is)

-- `openbook` of the same tells what all records do
pub machines_opened : (epoch workers : ℕ) (streams : List (List ℕ)) (seed : List ℕ) → FitOneBook epoch (machines_of streams)
    → (refusal_of (OpenBook epoch workers) (written epoch streams seed) ≡ None)
    × (output_of (OpenBook epoch workers) (written epoch streams seed) seed ≡ text_of (reveal_of epoch (records_of (book_of_all epoch streams))))
    × TellAlike (reveal_of epoch (records_of (book_of_all epoch streams))) (reveal_of epoch (records_of_all (machines_of streams)))
machines_opened epoch workers streams seed fit =
    let is = sum_is epoch streams seed fit in
    (ap refusal_in is, ap (of_sum (opened epoch)) is, book_reveals epoch (records_of_all (machines_of streams)))

-- both write the same of the same records, however they are spread
pub machines_order : (epoch workers : ℕ) (streams others : List (List ℕ)) (seed : List ℕ) → FitOneBook epoch (machines_of streams) → FitOneBook epoch (machines_of others)
    → EquallyOften (records_of_all (machines_of streams)) (records_of_all (machines_of others))
    → (output_of (Merge epoch) (written epoch streams seed) seed ≡ output_of (Merge epoch) (written epoch others seed) seed)
    × (output_of (OpenBook epoch workers) (written epoch streams seed) seed ≡ output_of (OpenBook epoch workers) (written epoch others seed) seed)
machines_order epoch workers streams others seed fit fits often =
    let same : merged epoch (written epoch streams seed) ≡ merged epoch (written epoch others seed) =
    sum_is epoch streams seed fit
    ∙ ap (λ (b : Book). Ok b) (same_book epoch (records_of_all (machines_of streams)) (records_of_all (machines_of others)) often)
    ∙ sym (sum_is epoch others seed fits) in
    (ap (of_sum spelling) same, ap (of_sum (opened epoch)) same)

-- machines in another order have the same records as often, and fit as well
pub machines_turned : (epoch : ℕ) (streams others : List (List ℕ)) → IsPermutation streams others → FitOneBook epoch (machines_of streams)
    → FitOneBook epoch (machines_of others) × EquallyOften (records_of_all (machines_of streams)) (records_of_all (machines_of others))
machines_turned epoch streams others turned fit = (
  record {
    epoch = fit.epoch;
    records = omega (arith, fit.records, equally_long (records_of_all (machines_of streams)) (records_of_all (machines_of others)) often);
    bytes = omega (arith, fit.bytes, as_long);
  },
  often,
)
  where
    spread : (rs : List (List ℕ)) → records_of_all (machines_of rs) ≡ flat_map stream_records rs
    spread rs = flat_map-map (λ (records : List Record). records) stream_records rs

    often : EquallyOften (records_of_all (machines_of streams)) (records_of_all (machines_of others))
    often p =
        ap (λ l. length (filter p l)) (spread streams)
        ∙ often_turned stream_records streams others turned p
        ∙ ap (λ l. length (filter p l)) (sym (spread others))

    long : (rs : List (List ℕ)) → length (books_of_all epoch (machines_of rs)) ≡ sum_by (λ (bytes : List ℕ). length (spelling (book_of epoch (stream_records bytes)))) rs
    long rs =
        ap length (flat_map-map (λ (records : List Record). spelling (book_of epoch records)) stream_records rs)
        ∙ length-flat_map (λ (bytes : List ℕ). spelling (book_of epoch (stream_records bytes))) rs

    as_long : length (books_of_all epoch (machines_of others)) ≡ length (books_of_all epoch (machines_of streams))
    as_long = long others ∙ sum_by-IsPermutation (λ (bytes : List ℕ). length (spelling (book_of epoch (stream_records bytes)))) streams others turned ∙ sym (long streams)
