-- The command `book`.
use Rattle.std.specs.Prelude.{ℕ, List}
use Rattle.star_io.specs.RecordLists.{stream_records}
use Rattle.book_file.specs.BookOf.{book_of}
use Rattle.book_file.specs.Spelling.{spelling}

-- the book of the records
abbrev pub book_output : (epoch : ℕ) → (bytes : List ℕ) → List ℕ
book_output epoch bytes = spelling (book_of epoch (stream_records bytes))
