-- A partial book: frames of one epoch with how often each came, and the number of other records.
use Rattle.std.specs.Prelude.{◌≡◌, ℕ, ◌+◌, ◌^◌, ◌<◌, ◌≤◌, Bool, false, true, ◌==◌, ◌&&◌, List, All, sum, unwrap_or, Result, Ok, Err}
use Rattle.std.specs.Ordering.{nat_cmp}
use Rattle.std.specs.Cmp.Lexicographic.{slice_cmp}
use Rattle.std.specs.List.Sorted.{IsStrictlySortedBy}
use Rattle.std.specs.Map.{keys_of, values_of, lookup}
use Rattle.std.specs.BTreeMap.{is_at}
use Rattle.std.specs.declared.cmp.Ordering.{Ordering}
use Rattle.star_io.specs.declared.record.TheConstants.{MAX_RECORDS}
use Rattle.report_frame.specs.Frame.{Fields}
use Rattle.report_frame.specs.Reading.{decoded}
use Rattle.report_frame.specs.declared.fault.Fault.{Fault}

-- a frame, and how many records were it
abbrev pub Entry : Type 0
Entry = List ℕ × ℕ

pub record Book : Type 0 where
  pub epoch : ℕ
  pub dropped : ℕ
  pub entries : List Entry

-- frames as lists of bytes, a proper prefix first
abbrev pub by_bytes : List ℕ → List ℕ → Ordering
by_bytes a b = slice_cmp nat_cmp a b

-- the report is of the epoch and of level 0
abbrev pub is_outer : ℕ → Result Fields Fault → Bool
is_outer e (Ok report) = (report.epoch == e) && (report.level == 0)
is_outer e (Err fault) = false

-- the bytes are a good frame of the epoch and of level 0
abbrev pub is_outer_frame : ℕ → List ℕ → Bool
is_outer_frame e bytes = is_outer e (decoded bytes)

-- how many records the book counts
abbrev pub total_of : Book → ℕ
total_of book = book.dropped + sum (values_of book.entries)

-- how many records were the frame, 0 where the entries don't have it
abbrev pub count_in : List Entry → List ℕ → ℕ
count_in entries frame = unwrap_or (lookup (is_at (by_bytes frame)) entries) 0

-- Each frame is one of the epoch and of level 0, they ascend, each came at least once, and there are not too many records.
pub record IsBook (book : Book) : Type 0 where
  pub epoch : book.epoch < 2 ^ 32
  pub frames : All (λ frame. is_outer_frame book.epoch frame ≡ true) (keys_of book.entries)
  pub ascending : IsStrictlySortedBy by_bytes (keys_of book.entries)
  pub counts : All (λ count. 1 ≤ count) (values_of book.entries)
  pub few : total_of book ≤ MAX_RECORDS

-- The parts are those of a book, and this is its total.
pub record IsBookOf (epoch dropped total : ℕ) (entries : List Entry) : Type 0 where
  pub is_book : IsBook (record { epoch = epoch; dropped = dropped; entries = entries })
  pub total_is : total ≡ dropped + sum (values_of entries)
