-- The book of a list of records, and the sum of two books.
use Rattle.std.specs.Prelude.{ℕ, ◌+◌, Bool, false, not, List, [], ◌∷◌, ◌++◌, length, map, filter, Option, Some, None, if◌then◌else◌}
use Rattle.std.specs.Map.{keys_of}
use Rattle.std.specs.Str.{bytes_eq}
use Rattle.star_io.specs.declared.record.Record.{Record}
use Rattle.star_io.specs.declared.record.Record.TheVariants.{Whole, TooLong, CutLength, CutRecord}
use Rattle.star_lists.specs.Ascending.{ascending}
use Rattle.book_file.specs.Book.{Entry, Book, by_bytes, is_outer_frame, count_in}

-- the record is a frame of the epoch and of level 0
abbrev pub is_taken : ℕ → Record → Bool
is_taken e (Whole body) = is_outer_frame e body
is_taken e (TooLong said) = false
is_taken e (CutLength have) = false
is_taken e (CutRecord said have) = false

-- the bytes of a record
abbrev pub body_of : Record → List ℕ
body_of (Whole body) = body
body_of (TooLong said) = []
body_of (CutLength have) = []
body_of (CutRecord said have) = []

-- the bytes of the record, where it is a frame of the epoch and of level 0
abbrev pub taken_body : ℕ → Record → Option (List ℕ)
taken_body e r = if is_taken e r then Some (body_of r) else None

-- the frames of the epoch and of level 0 among the records
unfoldable pub bodies_of : ℕ → List Record → List (List ℕ)
bodies_of e records = map body_of (filter (is_taken e) records)

-- how often the frame stands among the bodies
abbrev pub times : List (List ℕ) → List ℕ → ℕ
times bodies frame = length (filter (bytes_eq frame) bodies)

abbrev pub entry_of : List (List ℕ) → List ℕ → Entry
entry_of bodies frame = (frame, times bodies frame)

-- Each frame of the epoch and of level 0 with the number of records that are it, and the number of all other records.
unfoldable pub book_of : ℕ → List Record → Book
book_of e records = record {
  epoch = e;
  dropped = length (filter (λ r. not (is_taken e r)) records);
  entries = map (entry_of (bodies_of e records)) (ascending by_bytes (bodies_of e records));
}

-- the book of one record: its frame once, or one that is dropped
abbrev pub one_book : ℕ → Option (List ℕ) → Book
one_book e None = record { epoch = e; dropped = 1; entries = [] }
one_book e (Some frame) = record { epoch = e; dropped = 0; entries = (frame, 1) ∷ [] }

-- a frame with its counts in both added
abbrev pub summed : List Entry → List Entry → List ℕ → Entry
summed xs ys frame = (frame, count_in xs frame + count_in ys frame)

-- the entries of both, each frame with its counts added
unfoldable pub entries_sum : List Entry → List Entry → List Entry
entries_sum xs ys = map (summed xs ys) (ascending by_bytes (keys_of xs ++ keys_of ys))

-- The sum of two books of one epoch: counts and dropped records are added.
unfoldable pub sum_of : Book → Book → Book
sum_of a b = record {
  epoch = a.epoch;
  dropped = a.dropped + b.dropped;
  entries = entries_sum a.entries b.entries;
}
