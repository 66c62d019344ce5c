-- Taking one field from a source with known bytes.
use Rattle.std.proofs.Common.{◌≡◌, ℕ, zero, suc, ◌+◌, ◌<◌, ◌≤◌, Bool, true, false, cond, List, [], ◌∷◌, ◌++◌, Option, Some, None, Ok, Err, length, take, drop, refl, sym, ap, ap₂, ◌∙◌, subst, arith, length-append}
use Rattle.std.specs.Prelude.{nat_lt, ◌==◌, ◌||◌, not}
use Rattle.std.specs.Io.KnownBytes.{Consumes, IsAtEnd}
use Rattle.std.proofs.lemmas.Bool.{ltb-false, lt-ltb, le-ltb}
use Rattle.std.proofs.lemmas.Option.{none-some}
use Rattle.std.proofs.Math.Seq.{take-append_seam, drop-append_seam, drop-length}
use Rattle.std.proofs.lemmas.List.{append-nil, drop-drop}
use Rattle.star_io.specs.declared.record.TheConstants.{MAX_RECORDS}
use Rattle.book_file.specs.declared.book_kind.BookKind.{BookKind}
use Rattle.book_file.specs.declared.book_kind.BookKind.TheVariants.{Truncated, Magic, Version, Count, Frame, Order}
use Rattle.book_file.specs.declared.limits.TheConstants.{BOOK_MAGIC, BOOK_VERSION}
use Rattle.std.specs.Str.{bytes_eq}
use Rattle.std.specs.Int.{w16, w32, from_be_bytes}
use Rattle.book_file.specs.declared.book_error.NextBookError.{NextBookError}
use Rattle.book_file.specs.declared.book_error.NextBookError.TheVariants.{Read, NoMemory, Bad}
use Rattle.book_file.specs.Book.{Book, is_outer_frame, total_of}
use Rattle.book_file.specs.Format.{Format, unless, never, with_entry, is_above, last_of, count_fault, frame_fault, entries_format, header_format, book_format}
use Rattle.book_file.specs.Format.Format.{Done, Field}
use Rattle.book_file.specs.Reading.{judged, read, read_of, TakesBook}
use Rattle.book_file.specs.Taking.{Stands, IsJudged, IsFault}

-- a field that is there
pub read_whole : (size at : ℕ) (fault : List ℕ → Option BookKind) (next : List ℕ → Format) (bytes field rest : List ℕ) → bytes ≡ field ++ rest → length field ≡ size → read (Field size fault next) at bytes ≡ judged (fault field) at (at + size) (read (next field) (at + size) rest)
unfolding read
read_whole size at fault next bytes field rest is long =
    let enough : size ≤ length bytes = omega (arith, ap length is, length-append field rest, long) in
    let front : take size bytes ≡ field = ap₂ (λ (n : ℕ) (xs : List ℕ). take n xs) (sym long) is ∙ take-append_seam field rest in
    let behind : drop size bytes ≡ rest = ap₂ (λ (n : ℕ) (xs : List ℕ). drop n xs) (sym long) is ∙ drop-append_seam field rest in
    ap (λ b. cond b (Err (record { kind = Truncated; at = at; used = at + length bytes })) (judged (fault (take size bytes)) at (at + size) (read (next (take size bytes)) (at + size) (drop size bytes)))) (le-ltb (length bytes) size enough)
    ∙ ap₂ (λ f r. judged (fault f) at (at + size) (read (next f) (at + size) r)) front behind

-- a field that is cut short
pub read_short : (size at : ℕ) (fault : List ℕ → Option BookKind) (next : List ℕ → Format) (bytes : List ℕ) → length bytes < size → read (Field size fault next) at bytes ≡ Err (record { kind = Truncated; at = at; used = at + length bytes })
unfolding read
read_short size at fault next bytes short =
    ap (λ b. cond b (Err (record { kind = Truncated; at = at; used = at + length bytes })) (judged (fault (take size bytes)) at (at + size) (read (next (take size bytes)) (at + size) (drop size bytes)))) (lt-ltb (length bytes) size short)

-- what is taken, and what is left
taken : (xs : List ℕ) (left : Option (List ℕ)) (field : List ℕ) → Consumes (Some xs) left field → (rest : List ℕ) × (left ≡ Some rest) × (xs ≡ field ++ rest)
taken xs None field h = absurd h
taken xs (Some rest) field h = (rest, refl, h)

-- where something is taken, something was left
pub some_taken : (bytes : List ℕ) (old new : Option (List ℕ)) (field : List ℕ) → old ≡ Some bytes → Consumes old new field → 0 < length field → 0 < length bytes
some_taken bytes old new field is took some =
    let got = taken bytes new field (subst (λ o. Consumes o new field) is took) in
    omega (arith, ap length got.2, length-append field got.0, some)

-- a field that was taken whole
pub field_taken : (size at : ℕ) (fault : List ℕ → Option BookKind) (next : List ℕ → Format) (bytes : List ℕ) (old new : Option (List ℕ)) (field : List ℕ) → Stands (Field size fault next) at old bytes → Consumes old new field → length field ≡ size → IsJudged (fault field) (next field) at (at + size) new bytes
field_taken size at fault next bytes old new field stands took long =
    let got = taken (drop at bytes) new field (subst (λ o. Consumes o new field) stands.left_is took) in
    let behind : drop (at + size) bytes ≡ got.0 = sym (drop-drop size at bytes) ∙ ap₂ (λ (n : ℕ) (xs : List ℕ). drop n xs) (sym long) got.2 ∙ drop-append_seam field got.0 in
    record {
      reads = stands.reads ∙ read_whole size at fault next (drop at bytes) field got.0 got.2 long ∙ ap (λ r. judged (fault field) at (at + size) (read (next field) (at + size) r)) (sym behind);
      left_is = got.1 ∙ ap (λ r. Some r) (sym behind);
      some = stands.some;
    }

-- a field before whose end the bytes end
pub field_cut : (size at : ℕ) (fault : List ℕ → Option BookKind) (next : List ℕ → Format) (bytes : List ℕ) (old new : Option (List ℕ)) (front : List ℕ) → Stands (Field size fault next) at old bytes → Consumes old new front → IsAtEnd new → length front < size → IsFault new bytes (Bad (record { kind = Truncated; at = at; used = at + length front }))
field_cut size at fault next bytes old new front stands took end short =
    let got = taken (drop at bytes) new front (subst (λ o. Consumes o new front) stands.left_is took) in
    let none : got.0 ≡ [] = subst IsAtEnd got.1 end in
    let all : drop at bytes ≡ front = got.2 ∙ ap (λ r. front ++ r) none ∙ append-nil front in
    let behind : drop (at + length front) bytes ≡ [] = sym (drop-drop (length front) at bytes) ∙ ap (drop (length front)) all ∙ drop-length front in (
      stands.some,
      stands.reads ∙ ap (read (Field size fault next) at) all ∙ read_short size at fault next front short,
      got.1 ∙ ap (λ r. Some r) (none ∙ sym behind),
    )

-- nothing is wrong with the field
pub judged_fine : (wrong : Option BookKind) (format : Format) (at end : ℕ) (left : Option (List ℕ)) (bytes : List ℕ) → wrong ≡ None → IsJudged wrong format at end left bytes → Stands format end left bytes
judged_fine wrong format at end left bytes fine h = record {
  reads = h.reads ∙ ap (λ w. judged w at end (read format end (drop end bytes))) fine;
  left_is = h.left_is;
  some = h.some;
}

-- this is wrong with it
pub judged_bad : (wrong : Option BookKind) (kind : BookKind) (format : Format) (at end : ℕ) (left : Option (List ℕ)) (bytes : List ℕ) → wrong ≡ Some kind → IsJudged wrong format at end left bytes → IsFault left bytes (Bad (record { kind = kind; at = at; used = end }))
judged_bad wrong kind format at end left bytes is h = (h.some, h.reads ∙ ap (λ w. judged w at end (read format end (drop end bytes))) is, h.left_is)

-- where nothing is wrong, the test holds
pub unless_none : (fine : Bool) (kind : BookKind) → unless fine kind ≡ None → fine ≡ true
unless_none true kind h = refl
unless_none false kind h = absurd (none-some kind (sym h))

-- a frame with which nothing is wrong
pub frame_is_good : (book : Book) (frame : List ℕ) → frame_fault book frame ≡ None → (is_outer_frame book.epoch frame ≡ true) × (is_above (last_of book.entries) frame ≡ true)
frame_is_good book frame h =
    elim (is_outer_frame book.epoch frame) as (λ b. is_outer_frame book.epoch frame ≡ b → cond (not b) (Some Frame) (unless (is_above (last_of book.entries) frame) Order) ≡ None → (is_outer_frame book.epoch frame ≡ true) × (is_above (last_of book.entries) frame ≡ true)) [
      | true ↦ λ good h. (good, unless_none (is_above (last_of book.entries) frame) Order h)
      | false ↦ λ good h. absurd (none-some Frame (sym h))
    ] refl h

-- a count with which nothing is wrong
pub count_is_good : (book : Book) (count : ℕ) → count_fault book count ≡ None → (1 ≤ count) × (total_of book + count ≤ MAX_RECORDS)
count_is_good book count h =
    elim (count == 0) as (λ b. (count == 0) ≡ b → cond (b || nat_lt MAX_RECORDS (total_of book + count)) (Some Count) None ≡ None → (1 ≤ count) × (total_of book + count ≤ MAX_RECORDS)) [
      | true ↦ λ zero h. absurd (none-some Count (sym h))
      | false ↦ λ some h. elim (nat_lt MAX_RECORDS (total_of book + count)) as (λ b. nat_lt MAX_RECORDS (total_of book + count) ≡ b → cond b (Some Count) None ≡ None → (1 ≤ count) × (total_of book + count ≤ MAX_RECORDS)) [
        | true ↦ λ more h. absurd (none-some Count (sym h))
        | false ↦ λ few h. (some_count count some, ltb-false MAX_RECORDS (total_of book + count) few)
      ] refl h
    ] refl h
  where
    some_count : (n : ℕ) → (n == 0) ≡ false → 1 ≤ n
    some_count zero h = absurd (let no : true ≡ false = h in cc)
    some_count (suc n) h = omega arith

-- ---- the fields of a book

-- the first field
pub magic_field : (bytes : List ℕ) (left : Option (List ℕ)) → left ≡ Some bytes → 0 < length bytes → Stands (Field 8 (λ magic. unless (bytes_eq magic BOOK_MAGIC) Magic) (λ _. header_format)) 0 left bytes
unfolding read_of book_format
magic_field bytes left is some = record { reads = refl; left_is = is; some = some }

-- what stands behind the fields of the header: the number of entries, dropped records, the epoch
abbrev pub after_number : List ℕ → List ℕ → List ℕ → Format
after_number epoch dropped number = entries_format (from_be_bytes w32 number) (record { epoch = from_be_bytes w32 epoch; dropped = from_be_bytes w32 dropped; entries = [] })

abbrev pub after_dropped : List ℕ → List ℕ → Format
after_dropped epoch dropped = Field 4 never (after_number epoch dropped)

abbrev pub dropped_wrong : List ℕ → Option BookKind
dropped_wrong dropped = unless (not (nat_lt MAX_RECORDS (from_be_bytes w32 dropped))) Count

abbrev pub after_epoch : List ℕ → Format
after_epoch epoch = Field 4 dropped_wrong (after_dropped epoch)

abbrev pub version_wrong : List ℕ → Option BookKind
version_wrong version = unless (bytes_eq version (BOOK_VERSION ∷ [])) Version

abbrev pub after_version : List ℕ → Format
after_version version = Field 4 never after_epoch

-- what stands behind the fields of an entry: its count, its length, its frame
abbrev pub after_frame : ℕ → Book → List ℕ → List ℕ → Format
after_frame n book count frame = entries_format n (with_entry book frame (from_be_bytes w32 count))

abbrev pub after_size : ℕ → Book → List ℕ → List ℕ → Format
after_size n book count size = Field (from_be_bytes w16 size) (frame_fault book) (after_frame n book count)

abbrev pub after_count : ℕ → Book → List ℕ → Format
after_count n book count = Field 2 never (after_size n book count)

abbrev pub count_wrong : Book → List ℕ → Option BookKind
count_wrong book count = count_fault book (from_be_bytes w32 count)

pub entry_field : (n at : ℕ) (book : Book) (bytes : List ℕ) (left : Option (List ℕ)) → Stands (entries_format (suc n) book) at left bytes → Stands (Field 4 (count_wrong book) (after_count n book)) at left bytes
unfolding entries_format
entry_field n at book bytes left stands = stands

-- another way to say what is wrong, or where it ends
pub judged_as : (wrong also : Option BookKind) (format : Format) (at end : ℕ) (left : Option (List ℕ)) (bytes : List ℕ) → also ≡ wrong → IsJudged wrong format at end left bytes → IsJudged also format at end left bytes
judged_as wrong also format at end left bytes same h = subst (λ w. IsJudged w format at end left bytes) (sym same) h

-- the same place and size, said in another way
pub field_at : (size also at place : ℕ) (fault : List ℕ → Option BookKind) (next : List ℕ → Format) (bytes : List ℕ) (left : Option (List ℕ)) → also ≡ size → place ≡ at → Stands (Field size fault next) at left bytes → Stands (Field also fault next) place left bytes
field_at size also at place fault next bytes left same here h =
    subst (λ n. Stands (Field n fault next) place left bytes) (sym same) (subst (λ n. Stands (Field size fault next) n left bytes) (sym here) h)

pub judged_to : (wrong also : Option BookKind) (format : Format) (at end place : ℕ) (left : Option (List ℕ)) (bytes : List ℕ) → also ≡ wrong → place ≡ end → IsJudged wrong format at end left bytes → IsJudged also format at place left bytes
judged_to wrong also format at end place left bytes same here h =
    judged_as wrong also format at place left bytes same (subst (λ n. IsJudged wrong format at n left bytes) (sym here) h)

-- a part that was written over from its front to its end
pub whole_written : (field rest : List ℕ) (n : ℕ) → n ≡ length field → take n (field ++ rest) ≡ field
whole_written field rest n size = ap (λ m. take m (field ++ rest)) size ∙ take-append_seam field rest

-- an error is told as it was found
pub takes_fault : (bytes : List ℕ) (left : Option (List ℕ)) (e : NextBookError) → IsFault left bytes e → TakesBook bytes left (Err e)
takes_fault bytes left (Bad bad) h = h
takes_fault bytes left Read h = h
takes_fault bytes left NoMemory h = h

-- no entry follows
pub book_ends : (n at : ℕ) (book : Book) (bytes : List ℕ) (left : Option (List ℕ)) → n ≡ 0 → Stands (entries_format n book) at left bytes → (read_of bytes ≡ Ok (record { book = book; used = at })) × (left ≡ Some (drop at bytes))
unfolding read entries_format
book_ends n at book bytes left none h =
    let end : Stands (Done book) at left bytes = subst (λ m. Stands (entries_format m book) at left bytes) none h in
    (end.reads, end.left_is)

-- one entry or more follow
pub entries_at : (n m at : ℕ) (book : Book) (bytes : List ℕ) (left : Option (List ℕ)) → n ≡ m → Stands (entries_format n book) at left bytes → Stands (entries_format m book) at left bytes
entries_at n m at book bytes left same h = subst (λ k. Stands (entries_format k book) at left bytes) same h
