-- The layout of a book as data: its fields from left to right, each with its size and what is wrong with its bytes.
use Rattle.std.specs.Prelude.{◌≡◌, ◌⊎◌, ℕ, zero, suc, ◌+◌, ◌-◌, ◌<◌, ◌≤◌, Bool, true, not, nat_lt, ◌==◌, ◌||◌, List, [], ◌∷◌, ◌++◌, length, take, Option, None, Some, if◌then◌else◌}
use Rattle.std.specs.Int.{w16, w32, from_be_bytes}
use Rattle.std.specs.List.{flat_map, slice_get}
use Rattle.std.specs.Ordering.{is_lt}
use Rattle.std.specs.Str.{bytes_eq}
use Rattle.star_io.specs.declared.record.TheConstants.{MAX_RECORDS}
use Rattle.book_file.specs.declared.limits.TheConstants.{BOOK_MAGIC, BOOK_VERSION}
use Rattle.book_file.specs.declared.book_kind.BookKind.{BookKind}
use Rattle.book_file.specs.declared.book_kind.BookKind.TheVariants.{Truncated, Magic, Version, Count, Frame, Order}
use Rattle.book_file.specs.Book.{Entry, Book, by_bytes, is_outer_frame, total_of}

-- the fields that follow
pub data Format : Type 0 where
  -- none: this is the book
  Done : Book → Format
  -- a field of so many bytes, what is wrong with them, and what follows them
  Field : ℕ → (List ℕ → Option BookKind) → (List ℕ → Format) → Format

-- the kind, where the test fails
abbrev pub unless : Bool → BookKind → Option BookKind
unless fine kind = if fine then None else Some kind

-- any bytes will do
abbrev pub never : List ℕ → Option BookKind
never bytes = None

-- the book with one more entry behind the others
abbrev pub with_entry : Book → List ℕ → ℕ → Book
with_entry book frame count = record { epoch = book.epoch; dropped = book.dropped; entries = book.entries ++ (frame, count) ∷ [] }

-- a count is at least 1, and the total with it is in its limit
abbrev pub count_fault : Book → ℕ → Option BookKind
count_fault book count = if (count == 0) || nat_lt MAX_RECORDS (total_of book + count) then Some Count else None

-- the frame is above that of the last entry, if there is one
abbrev pub is_above : Option Entry → List ℕ → Bool
is_above None frame = true
is_above (Some last) frame = is_lt (by_bytes last.0 frame)

-- the last entry, if there is one
abbrev pub last_of : List Entry → Option Entry
last_of entries = slice_get entries (length entries - 1)

-- the bytes are a good frame of the book's epoch and of level 0, and then: it is above the frame before it
abbrev pub frame_fault : Book → List ℕ → Option BookKind
frame_fault book frame =
    if not (is_outer_frame book.epoch frame) then Some Frame
    else unless (is_above (last_of book.entries) frame) Order

-- an entry behind those of the book: a count, a length, and a frame of that length
abbrev pub entry_format : Book → (Book → Format) → Format
entry_format book next =
    Field 4 (λ count. count_fault book (from_be_bytes w32 count)) (λ count.
    Field 2 never (λ size.
    Field (from_be_bytes w16 size) (frame_fault book) (λ frame.
    next (with_entry book frame (from_be_bytes w32 count)))))

-- so many of them
unfoldable pub entries_format : ℕ → Book → Format
entries_format zero book = Done book
entries_format (suc n) book = entry_format book (entries_format n)

-- what stands behind the magic: version, epoch, dropped records, number of entries, and as many entries
abbrev pub header_format : Format
header_format =
    Field 1 (λ version. unless (bytes_eq version (BOOK_VERSION ∷ [])) Version) (λ _.
    Field 4 never (λ epoch.
    Field 4 (λ dropped. unless (not (nat_lt MAX_RECORDS (from_be_bytes w32 dropped))) Count) (λ dropped.
    Field 4 never (λ number.
    entries_format (from_be_bytes w32 number)
    (record { epoch = from_be_bytes w32 epoch; dropped = from_be_bytes w32 dropped; entries = [] })))))

-- the whole of a book
unfoldable pub book_format : Format
book_format = Field 8 (λ magic. unless (bytes_eq magic BOOK_MAGIC) Magic) (λ _. header_format)

-- These bytes stand in the first fields, nothing is wrong with them, and Q holds of the fields that follow.
abbrev pub After : Format → List (List ℕ) → (Format → Type 0) → Type 0
After format [] Q = Q format
After (Done book) (field ∷ fields) Q = ⊥
After (Field size fault next) (field ∷ fields) Q = (length field ≡ size) × (fault field ≡ None) × After (next field) fields Q

-- The bytes don't begin with a good next field: it is cut short, or whole and wrong.
abbrev pub IsWrong : List ℕ → BookKind → Format → Type 0
IsWrong bytes kind (Done book) = ⊥
IsWrong bytes kind (Field size fault next) =
    ((length bytes < size) × (kind ≡ Truncated)) ⊎ ((size ≤ length bytes) × (fault (take size bytes) ≡ Some kind))

-- the bytes of the fields, joined
abbrev pub joined : List (List ℕ) → List ℕ
joined fields = flat_map (λ field. field) fields

-- The bytes don't begin with a book: the first fields are good and end at this place, and the next one is wrong.
abbrev pub FaultAt : List ℕ → BookKind → ℕ → Type 0
FaultAt bytes kind at =
    (first : List (List ℕ)) × (rest : List ℕ) × (bytes ≡ joined first ++ rest) × (at ≡ length (joined first)) × After book_format first (IsWrong rest kind)
