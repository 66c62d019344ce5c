-- The records of a book.
use Rattle.std.specs.Prelude.{ℕ, List, replicate}
use Rattle.std.specs.List.{flat_map}
use Rattle.star_io.specs.declared.record.Record.{Record}
use Rattle.star_io.specs.declared.record.Record.TheVariants.{Whole}
use Rattle.book_file.specs.Book.{Entry, Book}

-- the frame of an entry as a whole record, as often as its count
abbrev pub entry_records : Entry → List Record
entry_records entry = replicate entry.1 (Whole entry.0)

-- each frame as a whole record, as often as its count, in the book's order
unfoldable pub records_of : Book → List Record
records_of book = flat_map entry_records book.entries
