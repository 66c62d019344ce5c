-- Books that stand one behind the other, and their sum.
use Rattle.std.specs.Prelude.{◌≡◌, ℕ, zero, suc, ◌+◌, ◌==◌, List, [], ◌∷◌, length, drop, not, nat_lt, Option, Some, Result, Ok, Err, ⊤, MatchResult, if◌then◌else◌}
use Rattle.star_io.specs.declared.record.TheConstants.{MAX_RECORDS}
use Rattle.book_file.specs.Book.{Book, total_of}
use Rattle.book_file.specs.BookOf.{sum_of}
use Rattle.book_file.specs.Reading.{read_of}
use Rattle.book_file.specs.declared.book_error.BadBook.{BadBook}
use Rattle.book_file.specs.declared.book_error.ReadBook.{ReadBook}
use Rattle.book_merge.specs.declared.fault.MergeFault.{MergeFault}
use Rattle.book_merge.specs.declared.fault.MergeFault.TheVariants.{TooMany, BadBook as BadBookFault, BookEpoch}
use Rattle.book_merge.specs.declared.fault.MergeError.{MergeError}
use Rattle.book_merge.specs.declared.fault.MergeError.TheVariants.{Fault, Read, NoMemory}
use Rattle.book_merge.specs.declared.limits.TheConstants.{MAX_BOOKS_BYTES}

-- a book, or the first fault of bytes that don't begin with one
abbrev pub Reading : Type 0
Reading = Result ReadBook BadBook

-- how many bytes a reading looks at
abbrev pub used_by : Reading → ℕ
used_by (Ok found) = found.used
used_by (Err bad) = bad.used

-- the bytes behind a reading: behind a fault nothing is read
abbrev pub behind : List ℕ → Reading → List ℕ
behind bytes (Ok found) = drop found.used bytes
behind bytes (Err bad) = []

-- the first n readings, or all where there are fewer
unfoldable pub first_readings : ℕ → List ℕ → List Reading
first_readings n [] = []
first_readings zero (byte ∷ bytes) = []
first_readings (suc n) (byte ∷ bytes) = read_of (byte ∷ bytes) ∷ first_readings n (behind (byte ∷ bytes) (read_of (byte ∷ bytes)))

-- one book behind the other up to the end of the bytes, or to the first fault: each has at least one byte
unfoldable pub readings : List ℕ → List Reading
readings bytes = first_readings (length bytes) bytes

-- the sum with one book more, which has this number: it must be of the same epoch, and the total in its limit
abbrev pub added : ℕ → Book → Book → Result Book MergeFault
added number sum book =
    if not (book.epoch == sum.epoch) then Err (BookEpoch number book.epoch)
    else if nat_lt MAX_RECORDS (total_of sum + total_of book) then Err TooMany
    else Ok (sum_of sum book)

-- the same, where the first fault stays
abbrev pub sum_with : ℕ → Result Book MergeFault → Book → Result Book MergeFault
sum_with number (Err fault) book = Err fault
sum_with number (Ok sum) book = added number sum book

-- the first fault, where the bytes behind so many books are bad
abbrev pub fault_with : ℕ → Result Book MergeFault → BadBook → MergeFault
fault_with number (Err fault) bad = fault
fault_with number (Ok sum) bad = BadBookFault number bad.kind bad.at

-- the sum with one reading more, which has this number
abbrev pub with_reading : ℕ → Result Book MergeFault → Reading → Result Book MergeFault
with_reading number so_far (Ok found) = sum_with number so_far found.book
with_reading number so_far (Err bad) = Err (fault_with number so_far bad)

-- the same of all these readings, numbered on
abbrev pub with_readings : ℕ → Result Book MergeFault → List Reading → Result Book MergeFault
with_readings number so_far [] = so_far
with_readings number so_far (reading ∷ others) = with_readings (number + 1) (with_reading number so_far reading) others

-- the book of no record
abbrev pub empty_book : ℕ → Book
empty_book e = record { epoch = e; dropped = 0; entries = [] }

-- the sum of the books that the bytes are, or why there is none: too many bytes come before all that is wrong with a book
unfoldable pub merged : ℕ → List ℕ → Result Book MergeFault
merged e bytes = if nat_lt MAX_BOOKS_BYTES (length bytes) then Err TooMany else with_readings 0 (Ok (empty_book e)) (readings bytes)

-- where the first of these readings ends that ends behind the limit, if the first one begins here; else one byte behind the limit
abbrev pub end_of : ℕ → List Reading → ℕ
end_of at [] = MAX_BOOKS_BYTES + 1
end_of at (reading ∷ others) = if nat_lt MAX_BOOKS_BYTES (at + used_by reading) then at + used_by reading else end_of (at + used_by reading) others

-- what is left of bytes that have no sum
unfoldable pub merge_rest : List ℕ → List ℕ
merge_rest bytes = drop (end_of 0 (readings bytes)) bytes

-- the sum, or why there is none, as the answer of a call
abbrev pub IsAnswer : Result Book MergeFault → Result Book MergeError → Type 0
IsAnswer outcome answer = MatchResult outcome (λ sum. answer ≡ Ok sum) (λ fault. answer ≡ Err (Fault fault))

-- ---- what a call says of an input that tells its bytes

-- they have this sum, and all were read
abbrev pub IsSum : ℕ → (left left_after : Option (List ℕ)) → Book → Type 0
IsSum e left left_after sum = (bytes : List ℕ) → left ≡ Some bytes → (merged e bytes ≡ Ok sum) × (left_after ≡ Some [])

-- this is why they have none, and no more of them was taken than that needs
abbrev pub HasFault : ℕ → (left left_after : Option (List ℕ)) → MergeError → Type 0
HasFault e left left_after (Fault fault) = (bytes : List ℕ) → left ≡ Some bytes → (merged e bytes ≡ Err fault) × (left_after ≡ Some (merge_rest bytes))
HasFault e left left_after Read = ⊤
HasFault e left left_after NoMemory = ⊤
