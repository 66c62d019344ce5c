-- The one spelling of a book. Numbers are big-endian.
use Rattle.std.specs.Prelude.{◌≡◌, ℕ, List, [], ◌∷◌, ◌++◌, length}
use Rattle.std.specs.Int.{w16, w32, to_be_bytes}
use Rattle.std.specs.List.{flat_map}
use Rattle.book_file.specs.declared.limits.TheConstants.{BOOK_MAGIC, BOOK_VERSION}
use Rattle.book_file.specs.Book.{Entry, Book, IsBook}

-- an entry: its count, the length of its frame, and the frame
abbrev pub entry_bytes : Entry → List ℕ
entry_bytes entry = to_be_bytes w32 entry.1 ++ to_be_bytes w16 (length entry.0) ++ entry.0

-- what stands before the entries: magic, version, epoch, dropped records and the number of entries
abbrev pub header_bytes : Book → List ℕ
header_bytes book =
    BOOK_MAGIC ++ BOOK_VERSION ∷ [] ++ to_be_bytes w32 book.epoch ++ to_be_bytes w32 book.dropped ++ to_be_bytes w32 (length book.entries)

-- the bytes of a book
unfoldable pub spelling : Book → List ℕ
spelling book = header_bytes book ++ flat_map entry_bytes book.entries

-- The bytes begin with the spelling of this book, and the rest follows it.
pub record Begins (book : Book) (bytes rest : List ℕ) : Type 0 where
  pub is_book : IsBook book
  pub spelt : bytes ≡ spelling book ++ rest
