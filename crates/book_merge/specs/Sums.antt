-- What a sum of books is, and what the faults of bytes mean that have none.
use Rattle.std.specs.Prelude.{◌≡◌, ◌≢◌, ◌⊎◌, ℕ, ◌+◌, ◌<◌, ◌≤◌, List, [], ◌∷◌, length}
use Rattle.star_io.specs.declared.record.TheConstants.{MAX_RECORDS}
use Rattle.book_file.specs.Book.{Book, total_of}
use Rattle.book_file.specs.BookOf.{sum_of}
use Rattle.book_file.specs.Format.{FaultAt}
use Rattle.book_file.specs.Spelling.{Begins}
use Rattle.book_file.specs.declared.book_kind.BookKind.{BookKind}
use Rattle.book_merge.specs.declared.limits.TheConstants.{MAX_BOOKS_BYTES}
use Rattle.book_merge.specs.Merging.{empty_book}

-- The bytes begin with the spellings of these books, joined, and the rest follows them.
abbrev pub BeginBooks : List Book → List ℕ → List ℕ → Type 0
BeginBooks [] bytes rest = bytes ≡ rest
BeginBooks (book ∷ books) bytes rest = (middle : List ℕ) × Begins book bytes middle × BeginBooks books middle rest

-- the book with these added, one after the other
abbrev pub with_books : Book → List Book → Book
with_books book [] = book
with_books book (other ∷ others) = with_books (sum_of book other) others

-- These books can be added to one, one after the other: each is of the epoch, and no sum counts more records than a book may.
abbrev pub CanAdd : ℕ → Book → List Book → Type 0
CanAdd e book [] = Unit {0}
CanAdd e book (other ∷ others) = (other.epoch ≡ e) × (total_of book + total_of other ≤ MAX_RECORDS) × CanAdd e (sum_of book other) others

-- The bytes are not too many, and begin with books that can be added; the rest follows them.
pub record Books (e : ℕ) (bytes rest : List ℕ) : Type 0 where
  pub within : length bytes ≤ MAX_BOOKS_BYTES
  pub books : List Book
  pub begin : BeginBooks books bytes rest
  pub can_add : CanAdd e (empty_book e) books

-- The bytes are books that can be added, and this is their sum.
abbrev pub IsSumOf : (e : ℕ) (bytes : List ℕ) → Book → Type 0
IsSumOf e bytes total = (all : Books e bytes []) × (total ≡ with_books (empty_book e) all.books)

-- Behind so many books that can be added there are bytes that don't begin with a book, and this is their fault.
abbrev pub HasBadBook : (e : ℕ) (bytes : List ℕ) (number : ℕ) → BookKind → (at : ℕ) → Type 0
HasBadBook e bytes number kind at = (rest : List ℕ) × (adds : Books e bytes rest) × (length adds.books ≡ number) × (0 < length rest) × FaultAt rest kind at

-- Behind so many books that can be added there is one of another epoch.
abbrev pub HasOtherEpoch : (e : ℕ) (bytes : List ℕ) (number have : ℕ) → Type 0
HasOtherEpoch e bytes number have =
    (book : Book) × (rest : List ℕ) × (behind : List ℕ) × (adds : Books e bytes rest) × (length adds.books ≡ number) × Begins book rest behind × (book.epoch ≡ have) × (have ≢ e)

-- There are more bytes than are read, or behind books that can be added one takes the sum of the totals above its limit.
abbrev pub HasTooMuch : (e : ℕ) (bytes : List ℕ) → Type 0
HasTooMuch e bytes =
    (MAX_BOOKS_BYTES < length bytes)
    ⊎ ((book : Book) × (rest : List ℕ) × (behind : List ℕ) × (adds : Books e bytes rest) × Begins book rest behind × (book.epoch ≡ e)
    × (MAX_RECORDS < total_of (with_books (empty_book e) adds.books) + total_of book))
