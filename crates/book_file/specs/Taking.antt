-- How far a book is read from a source with known bytes.
use Rattle.std.specs.Prelude.{◌≡◌, ℕ, ◌<◌, List, length, drop, Option, Some, Err}
use Rattle.book_file.specs.declared.book_kind.BookKind.{BookKind}
use Rattle.book_file.specs.declared.book_error.NextBookError.{NextBookError}
use Rattle.book_file.specs.declared.book_error.NextBookError.TheVariants.{Read, NoMemory, Bad}
use Rattle.book_file.specs.Format.{Format}
use Rattle.book_file.specs.Reading.{judged, read, read_of}

-- The fields of these bytes, which aren't none, are read up to this place, where the format goes on, and the bytes from there on are left.
pub record Stands (format : Format) (at : ℕ) (left : Option (List ℕ)) (bytes : List ℕ) : Type 0 where
  pub reads : read_of bytes ≡ read format at (drop at bytes)
  pub left_is : left ≡ Some (drop at bytes)
  pub some : 0 < length bytes

-- The same up to the end of a field that isn't judged yet: nothing is wrong with it, or this is.
pub record IsJudged (wrong : Option BookKind) (format : Format) (at end : ℕ) (left : Option (List ℕ)) (bytes : List ℕ) : Type 0 where
  pub reads : read_of bytes ≡ judged wrong at end (read format end (drop end bytes))
  pub left_is : left ≡ Some (drop end bytes)
  pub some : 0 < length bytes

-- the fault is that of the bytes, and those behind it are left
abbrev pub IsFault : Option (List ℕ) → List ℕ → NextBookError → Type 0
IsFault left bytes (Bad bad) = (0 < length bytes) × (read_of bytes ≡ Err bad) × (left ≡ Some (drop bad.used bytes))
IsFault left bytes Read = Unit {0}
IsFault left bytes NoMemory = Unit {0}
