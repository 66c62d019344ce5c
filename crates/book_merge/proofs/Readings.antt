-- Readings of books that stand one behind the other: how much each takes, and which follow it.
use Rattle.std.proofs.Common.{◌≡◌, ℕ, zero, suc, ◌+◌, ◌-◌, ◌<◌, ◌≤◌, List, [], ◌∷◌, length, take, drop, Option, None, Some, Result, Ok, Err, inl, inr, refl, sym, ap, ◌∙◌, subst, arith}
use Rattle.std.proofs.lemmas.Bool.{cases_lt, lt-ltb, le-ltb}
use Rattle.std.proofs.lemmas.List.{length-drop}
use Rattle.book_file.specs.Format.{Format, entries_format, book_format}
use Rattle.book_file.specs.Format.Format.{Done, Field}
use Rattle.book_file.specs.Reading.{judged, read, read_of}
use Rattle.book_file.specs.declared.book_kind.BookKind.{BookKind}
use Rattle.book_file.specs.declared.book_error.BadBook.{BadBook}
use Rattle.book_file.specs.declared.book_error.ReadBook.{ReadBook}
use Rattle.book_merge.specs.Merging.{Reading, used_by, behind, first_readings, readings}

-- ---- how much a reading takes

-- a place from one to another
abbrev Between : ℕ → ℕ → ℕ → Type 0
Between low high n = (low ≤ n) × (n ≤ high)

judged-between : (fault : Option BookKind) (low at end high : ℕ) (found : Reading) → low ≤ end → end ≤ high → Between low high (used_by found) → Between low high (used_by (judged fault at end found))
judged-between None low at end high found first last between = between
judged-between (Some kind) low at end high found first last between = (first, last)

-- it ends within the bytes
read-between : (format : Format) (at : ℕ) (bytes : List ℕ) → Between at (at + length bytes) (used_by (read format at bytes))
unfolding read
read-between (Done book) at bytes = (omega arith, omega arith)
read-between (Field size fault next) at bytes = elim (cases_lt (length bytes) size) [
  | inl short ↦ rw (lt-ltb (length bytes) size short) (omega arith, omega arith)
  | inr whole ↦
      let rest = read-between (next (take size bytes)) (at + size) (drop size bytes) in
      let all : at + size + length (drop size bytes) ≡ at + length bytes = omega (arith, length-drop size bytes) in
      rw (le-ltb (length bytes) size whole) (judged-between (fault (take size bytes)) at at (at + size) (at + length bytes) (read (next (take size bytes)) (at + size) (drop size bytes)) (omega arith) (omega arith)
      (omega (arith, rest.0), omega (arith, rest.1, all)))
]

pub used-most : (bytes : List ℕ) → used_by (read_of bytes) ≤ length bytes
unfolding read_of
used-most bytes = omega (arith, (read-between book_format 0 bytes).1)

-- a book has the fields that follow a field of so many bytes
field_behind : (size : ℕ) (fault : List ℕ → Option BookKind) (next : List ℕ → Format) (at : ℕ) (bytes : List ℕ) (found : ReadBook)
    → read (Field size fault next) at bytes ≡ Ok found → read (next (take size bytes)) (at + size) (drop size bytes) ≡ Ok found
unfolding read
field_behind size fault next at bytes found is = elim (cases_lt (length bytes) size) [
  | inl short ↦ absurd (let bad = rw (lt-ltb (length bytes) size short) at is in cc bad)
  | inr whole ↦ go (fault (take size bytes)) (read (next (take size bytes)) (at + size) (drop size bytes)) (rw (le-ltb (length bytes) size whole) at is)
]
  where
    go : (fault : Option BookKind) (rest : Reading) → judged fault at (at + size) rest ≡ Ok found → rest ≡ Ok found
    go None rest is = is
    go (Some kind) rest is = absurd (let bad = is in cc bad)

-- so it has at least the 21 bytes of its header
pub used-least : (bytes : List ℕ) (found : ReadBook) → read_of bytes ≡ Ok found → 21 ≤ found.used
unfolding read_of book_format
used-least bytes found is =
    let version = field_behind 8 _ _ 0 bytes found is in
    let epoch = field_behind 1 _ _ 8 (drop 8 bytes) found version in
    let dropped = field_behind 4 _ _ 9 (drop 1 (drop 8 bytes)) found epoch in
    let number = field_behind 4 _ _ 13 (drop 4 (drop 1 (drop 8 bytes))) found dropped in
    let entries = field_behind 4 _ _ 17 (drop 4 (drop 4 (drop 1 (drop 8 bytes)))) found number in
    subst (λ (r : Reading). 21 ≤ used_by r) entries (read-between _ _ _).0

-- ---- the readings of bytes

pub readings-nil : readings [] ≡ []
unfolding readings first_readings
readings-nil = refl

fewer_by : (bytes : List ℕ) (reading : Reading) → 0 < length bytes → ((found : ReadBook) → reading ≡ Ok found → 21 ≤ found.used) → length (behind bytes reading) < length bytes
fewer_by bytes (Ok found) some least = omega (arith, length-drop found.used bytes, least found refl)
fewer_by bytes (Err bad) some least = some

-- fewer bytes are behind a reading
fewer : (bytes : List ℕ) → 0 < length bytes → length (behind bytes (read_of bytes)) < length bytes
fewer bytes some = fewer_by bytes (read_of bytes) some (used-least bytes)

-- with steps enough these are all the readings
enough : (n m : ℕ) (bytes : List ℕ) → length bytes ≤ n → length bytes ≤ m → first_readings n bytes ≡ first_readings m bytes
unfolding first_readings
enough n m [] first second = refl
enough zero m (b ∷ bytes) first second = absurd (omega arith)
enough (suc n) zero (b ∷ bytes) first second = absurd (omega arith)
enough (suc n) (suc m) (b ∷ bytes) first second =
    let less = fewer (b ∷ bytes) (omega arith) in
    ap (λ (l : List Reading). read_of (b ∷ bytes) ∷ l) (enough n m (behind (b ∷ bytes) (read_of (b ∷ bytes))) (omega (arith, less)) (omega (arith, less)))

-- the first reading, and those behind it
pub readings-more : (bytes : List ℕ) (reading : Reading) → 0 < length bytes → read_of bytes ≡ reading → readings bytes ≡ reading ∷ readings (behind bytes reading)
unfolding readings first_readings
readings-more [] reading some is = absurd (omega arith)
readings-more (b ∷ bytes) reading some is =
    subst (λ (r : Reading). first_readings (length (b ∷ bytes)) (b ∷ bytes) ≡ r ∷ first_readings (length (behind (b ∷ bytes) r)) (behind (b ∷ bytes) r)) is
    (ap (λ (l : List Reading). read_of (b ∷ bytes) ∷ l) (enough (length bytes) (length (behind (b ∷ bytes) (read_of (b ∷ bytes)))) (behind (b ∷ bytes) (read_of (b ∷ bytes))) (omega (arith, fewer (b ∷ bytes) some)) (omega arith)))
