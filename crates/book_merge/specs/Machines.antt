-- Several machines, each with records of its own.
use Rattle.std.specs.Prelude.{ℕ, ◌<◌, ◌≤◌, ◌^◌, List, length}
use Rattle.std.specs.List.{flat_map}
use Rattle.star_io.specs.declared.record.Record.{Record}
use Rattle.star_io.specs.declared.record.TheConstants.{MAX_RECORDS}
use Rattle.book_file.specs.BookOf.{book_of}
use Rattle.book_file.specs.Spelling.{spelling}
use Rattle.book_merge.specs.declared.limits.TheConstants.{MAX_BOOKS_BYTES}

-- the records of all machines, one machine behind the other
abbrev pub records_of_all : List (List Record) → List Record
records_of_all machines = flat_map (λ (records : List Record). records) machines

-- the machines' books, one behind the other
abbrev pub books_of_all : ℕ → List (List Record) → List ℕ
books_of_all e machines = flat_map (λ (records : List Record). spelling (book_of e records)) machines

-- The machines have no more records in all than a book may count, and their books no more bytes than are merged.
pub record FitOneBook (e : ℕ) (machines : List (List Record)) : Type 0 where
  pub epoch : e < 2 ^ 32
  pub records : length (records_of_all machines) ≤ MAX_RECORDS
  pub bytes : length (books_of_all e machines) ≤ MAX_BOOKS_BYTES
