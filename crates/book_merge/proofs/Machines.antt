-- The joined books of several machines have the book of all their records as their sum.
use Rattle.std.proofs.Common.{◌≡◌, ℕ, suc, ◌+◌, ◌*◌, ◌^◌, ◌<◌, ◌≤◌, true, List, [], ◌∷◌, ◌++◌, length, map, Ok, refl, sym, ap, ◌∙◌, subst, arith, sum, All, length-append}
use Rattle.std.specs.List.{flat_map}
use Rattle.std.specs.Map.{keys_of, values_of}
use Rattle.std.proofs.lemmas.List.{append_assoc, append-nil}
use Rattle.std.proofs.lemmas.List.Elements.{All-head, All-tail}
use Rattle.star_io.specs.declared.record.Record.{Record}
use Rattle.star_io.specs.declared.record.TheConstants.{MAX_RECORDS}
use Rattle.book_file.specs.Book.{Entry, Book, IsBook, is_outer_frame, total_of}
use Rattle.book_file.specs.BookOf.{bodies_of, book_of}
use Rattle.book_file.specs.Spelling.{entry_bytes, spelling}
use Rattle.book_file.proofs.BookLaws.{book_sum}
use Rattle.book_file.proofs.Books.{few_entries, short_frame}
use Rattle.book_file.proofs.RecordBooks.{record_total, record_book}
use Rattle.book_merge.specs.Machines.{FitOneBook, books_of_all, records_of_all}
use Rattle.book_merge.specs.Merging.{empty_book, merged}
use Rattle.book_merge.specs.Sums.{BeginBooks, CanAdd, with_books}
use Rattle.book_merge.proofs.Meaning.{sum_back}

-- the books of the machines
abbrev machine_books : ℕ → List (List Record) → List Book
machine_books e machines = map (book_of e) machines

-- each machine has no more records than all
few_each : (n : ℕ) (records : List Record) (machines : List (List Record)) → n + length (records_of_all (records ∷ machines)) ≤ MAX_RECORDS
    → (length records ≤ MAX_RECORDS) × (n + length records ≤ MAX_RECORDS) × ((n + length records) + length (records_of_all machines) ≤ MAX_RECORDS)
few_each n records machines few =
    let both = length-append records (records_of_all machines) in
    (omega (arith, few, both), omega (arith, few, both), omega (arith, few, both))

begin : (e n : ℕ) (machines : List (List Record)) → e < 2 ^ 32 → n + length (records_of_all machines) ≤ MAX_RECORDS → BeginBooks (machine_books e machines) (books_of_all e machines) []
begin e n [] small few = refl
begin e n (records ∷ machines) small few =
    let each = few_each n records machines few in
    (books_of_all e machines, record { is_book = record_book e records small each.0; spelt = refl }, begin e (n + length records) machines small each.2)

-- to the book of some records those of all machines can be added
can : (e : ℕ) (xs : List Record) (machines : List (List Record)) → length xs + length (records_of_all machines) ≤ MAX_RECORDS → CanAdd e (book_of e xs) (machine_books e machines)
unfolding book_of
can e xs [] few = tt
can e xs (records ∷ machines) few =
    let each = few_each (length xs) records machines few in
    let room : total_of (book_of e xs) + total_of (book_of e records) ≤ MAX_RECORDS = omega (arith, record_total e xs, record_total e records, each.1) in
    (refl, room, subst (λ (b : Book). CanAdd e b (machine_books e machines)) (sym (book_sum e xs records)) (can e (xs ++ records) machines (omega (arith, each.2, length-append xs records))))

added_all : (e : ℕ) (xs : List Record) (machines : List (List Record)) → with_books (book_of e xs) (machine_books e machines) ≡ book_of e (xs ++ records_of_all machines)
added_all e xs [] = ap (book_of e) (sym (append-nil xs))
added_all e xs (records ∷ machines) =
    ap (λ (b : Book). with_books b (machine_books e machines)) (book_sum e xs records)
    ∙ added_all e (xs ++ records) machines
    ∙ ap (book_of e) (append_assoc xs records (records_of_all machines))

nothing : (e : ℕ) → book_of e [] ≡ empty_book e
unfolding book_of bodies_of
nothing e = refl

-- the sum of the joined books is the book of all records
pub machines_sum : (e : ℕ) (machines : List (List Record)) → FitOneBook e machines → merged e (books_of_all e machines) ≡ Ok (book_of e (records_of_all machines))
machines_sum e machines fit =
    let few : 0 + length (records_of_all machines) ≤ MAX_RECORDS = omega (arith, fit.records) in
    sum_back e (books_of_all e machines) (book_of e (records_of_all machines)) (
      record {
        within = fit.bytes;
        books = machine_books e machines;
        begin = begin e 0 machines fit.epoch few;
        can_add = subst (λ (b : Book). CanAdd e b (machine_books e machines)) (nothing e) (can e [] machines few);
      },
      sym (ap (λ (b : Book). with_books b (machine_books e machines)) (sym (nothing e)) ∙ added_all e [] machines),
    )

-- ---- how many bytes the books have

-- an entry has its frame and 6 bytes
entries_short : (e : ℕ) (entries : List Entry) → All (λ frame. is_outer_frame e frame ≡ true) (keys_of entries) → length (flat_map entry_bytes entries) ≤ 8198 * length entries
entries_short e [] good = omega arith
entries_short e (x ∷ xs) good =
    let frame : length x.0 ≤ 8192 = short_frame e x.0 (All-head (λ frame. is_outer_frame e frame ≡ true) x.0 (keys_of xs) good) in
    let one : length (entry_bytes x) ≡ suc (suc (suc (suc (suc (suc (length x.0)))))) = refl in
    let rest = entries_short e xs (All-tail (λ frame. is_outer_frame e frame ≡ true) x.0 (keys_of xs) good) in
    omega (arith, frame, one, rest, length-append (entry_bytes x) (flat_map entry_bytes xs))

-- a book has a header, and no more entries than it counts records
spelling_short : (book : Book) → IsBook book → length (spelling book) ≤ 21 + 8198 * total_of book
unfolding spelling
spelling_short book is =
    let entries = entries_short book.epoch book.entries is.frames in
    let some : length book.entries ≤ sum (values_of book.entries) = few_entries book.entries is.counts in
    omega (arith, entries, some)

books_short : (e n : ℕ) (machines : List (List Record)) → e < 2 ^ 32 → n + length (records_of_all machines) ≤ MAX_RECORDS
    → length (books_of_all e machines) ≤ 21 * length machines + 8198 * length (records_of_all machines)
books_short e n [] small few = omega arith
books_short e n (records ∷ machines) small few =
    let each = few_each n records machines few in
    let one = spelling_short (book_of e records) (record_book e records small each.0) in
    let rest = books_short e (n + length records) machines small each.2 in
    omega (arith, one, rest, record_total e records, length-append (spelling (book_of e records)) (books_of_all e machines), length-append records (records_of_all machines))

-- the books of 1,024 machines are never too many bytes
pub machines_fit : (e : ℕ) (machines : List (List Record)) → e < 2 ^ 32 → length (records_of_all machines) ≤ MAX_RECORDS → length machines ≤ 1024 → FitOneBook e machines
machines_fit e machines small few many = record {
  epoch = small;
  records = few;
  bytes = omega (arith, books_short e 0 machines small (omega (arith, few)), few, many);
}
