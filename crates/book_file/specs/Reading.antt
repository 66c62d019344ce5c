-- Reading bytes by the layout of a book, to the book or to the first fault.
use Rattle.std.specs.Prelude.{◌≡◌, ℕ, ◌+◌, ◌<◌, List, [], length, take, drop, nat_lt, Option, Some, None, Result, Ok, Err, if◌then◌else◌}
use Rattle.book_file.specs.declared.book_kind.BookKind.{BookKind}
use Rattle.book_file.specs.declared.book_kind.BookKind.TheVariants.{Truncated}
use Rattle.book_file.specs.declared.book_error.BadBook.{BadBook}
use Rattle.book_file.specs.declared.book_error.ReadBook.{ReadBook}
use Rattle.book_file.specs.declared.book_error.BookError.{BookError}
use Rattle.book_file.specs.declared.book_error.BookError.TheVariants.{Bad, NoMemory}
use Rattle.book_file.specs.declared.book_error.NextBookError.{NextBookError}
use Rattle.book_file.specs.declared.book_error.NextBookError.TheVariants as next
use Rattle.book_file.specs.Format.{Format, book_format, FaultAt}
use Rattle.book_file.specs.Format.Format.{Done, Field}

-- what reading gives, unless something is wrong with a field at this place that ends at that one
abbrev pub judged : Option BookKind → ℕ → ℕ → Result ReadBook BadBook → Result ReadBook BadBook
judged None at end found = found
judged (Some kind) at end found = Err (record { kind = kind; at = at; used = end })

-- The book of bytes that begin at this place, and where it ends; or their first fault: its kind, where its field starts, and
-- where the bytes end that were looked at.
unfoldable pub read : Format → ℕ → List ℕ → Result ReadBook BadBook
read (Done book) at bytes = Ok (record { book = book; used = at })
read (Field size fault next) at bytes =
    if nat_lt (length bytes) size then Err (record { kind = Truncated; at = at; used = at + length bytes })
    else judged (fault (take size bytes)) at (at + size) (read (next (take size bytes)) (at + size) (drop size bytes))

-- the book with which the bytes begin, or their first fault
unfoldable pub read_of : List ℕ → Result ReadBook BadBook
read_of bytes = read book_format 0 bytes

-- what a call answers of these bytes, where memory suffices
abbrev pub Reads : List ℕ → Result ReadBook BookError → Type 0
Reads bytes (Ok found) = read_of bytes ≡ Ok found
Reads bytes (Err (Bad kind at)) = (used : ℕ) × (read_of bytes ≡ Err (record { kind = kind; at = at; used = used }))
Reads bytes (Err NoMemory) = Unit {0}

-- what one turn takes from a source with these bytes left, where neither memory nor a read fails
abbrev pub TakesBook : List ℕ → Option (List ℕ) → Result (Option ReadBook) NextBookError → Type 0
TakesBook bytes left (Ok None) = (bytes ≡ []) × (left ≡ Some [])
TakesBook bytes left (Ok (Some found)) = (read_of bytes ≡ Ok found) × (left ≡ Some (drop found.used bytes))
TakesBook bytes left (Err (next.Bad bad)) = (0 < length bytes) × (read_of bytes ≡ Err bad) × (left ≡ Some (drop bad.used bytes))
TakesBook bytes left (Err next.Read) = Unit {0}
TakesBook bytes left (Err next.NoMemory) = Unit {0}

-- the fault that is answered is one of the bytes
abbrev pub HasFault : List ℕ → BookError → Type 0
HasFault bytes (Bad kind at) = FaultAt bytes kind at
HasFault bytes NoMemory = Unit {0}
