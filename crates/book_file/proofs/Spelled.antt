-- Bytes begin with a book and its spelling, or have one fault.
use Rattle.std.proofs.Common.{◌≡◌, ℕ, zero, suc, ◌+◌, ◌^◌, ◌<◌, ◌≤◌, true, false, cond, List, [], ◌∷◌, ◌++◌, inl, inr, Option, Some, None, Result, Ok, Err, length, take, drop, refl, sym, ap, ap₂, ◌∙◌, subst, arith, length-append, append_assoc, eqb-true}
use Rattle.std.specs.Prelude.{is_ok, nat_lt, not, All, sum, ◌==◌, ◌||◌}
use Rattle.std.specs.Int.{w16, w32, to_be_bytes, from_be_bytes}
use Rattle.std.specs.List.{flat_map}
use Rattle.std.specs.List.Sorted.{IsStrictlySortedBy}
use Rattle.std.specs.Map.{keys_of, values_of}
use Rattle.std.specs.Ordering.{is_lt}
use Rattle.std.specs.Str.{bytes_eq}
use Rattle.std.specs.Cmp.Lexicographic.{bytes_decides}
use Rattle.std.proofs.lemmas.Nat.{be_bytes_2, be_bytes_4, from_be_bytes-to_be_bytes_2, from_be_bytes-to_be_bytes_4}
use Rattle.std.proofs.lemmas.List.Elements.{All-head, All-tail}
use Rattle.std.proofs.lemmas.List.Sums.{sum_by-append, sum_by-cons}
use Rattle.star_io.specs.declared.record.TheConstants.{MAX_RECORDS}
use Rattle.std.proofs.lemmas.Bool.{ltb-false, ltb-true, le-ltb}
use Rattle.std.proofs.lemmas.List.{take-append-drop, length-take-le, append-nil, map-append}
use Rattle.book_file.specs.declared.book_kind.BookKind.{BookKind}
use Rattle.book_file.specs.declared.book_kind.BookKind.TheVariants.{Truncated, Magic, Version, Count, Frame, Order}
use Rattle.book_file.specs.declared.limits.TheConstants.{BOOK_MAGIC, BOOK_VERSION}
use Rattle.book_file.specs.declared.book_error.BadBook.{BadBook}
use Rattle.book_file.specs.declared.book_error.ReadBook.{ReadBook}
use Rattle.star_io.specs.Bytes.{AreBytes}
use Rattle.star_io.proofs.ByteLists.{AreBytes-get_or, AreBytes-append_left, AreBytes-append_right}
use Rattle.std.proofs.Math.Seq.{drop-append_seam}
use Rattle.std.proofs.lemmas.Option.{none-some}
use Rattle.book_file.specs.Book.{Entry, Book, IsBook, IsBookOf, is_outer_frame, total_of}
use Rattle.book_file.specs.Spelling.{entry_bytes, spelling, Begins}
use Rattle.book_file.proofs.Entries.{Rises}
use Rattle.book_file.proofs.Books.{pushed_book, dropped_book, last_later, few_entries, short_frame}
use Rattle.book_file.specs.Format.{Format, After, IsWrong, joined, FaultAt, book_format, entries_format, with_entry, unless, is_above, last_of, count_fault, frame_fault}
use Rattle.book_file.specs.Format.Format.{Done, Field}
use Rattle.book_file.specs.declared.book_error.NextBookError.{NextBookError}
use Rattle.book_file.specs.declared.book_error.NextBookError.TheVariants.{Bad}
use Rattle.book_file.specs.Reading.{judged, read, read_of, TakesBook}
use Rattle.book_file.proofs.Fields.{read_whole, read_short, unless_none, count_is_good, frame_is_good}

-- the format ends with this book
abbrev pub IsDone : Book → Format → Type 0
IsDone book (Done other) = other ≡ book
IsDone book (Field size fault next) = ⊥

-- good fields are read over
pub read_over : (format : Format) (at : ℕ) (first : List (List ℕ)) (rest : List ℕ) (Q : Format → Type 0) → After format first Q → (last : Format) × Q last × (read format at (joined first ++ rest) ≡ read last (at + length (joined first)) rest)
read_over format at [] rest Q h = let same : at ≡ at + 0 = omega arith in (format, h, ap (λ n. read format n rest) same)
read_over (Done book) at (f ∷ fs) rest Q h = absurd h
read_over (Field size fault next) at (f ∷ fs) rest Q h =
    let more = read_over (next f) (at + size) fs rest Q h.2 in
    let place : at + size + length (joined fs) ≡ at + length (f ++ joined fs) = omega (arith, length-append f (joined fs), h.0) in (
      more.0,
      more.1,
      read_whole size at fault next ((f ++ joined fs) ++ rest) f (joined fs ++ rest) (append_assoc f (joined fs) rest) h.0
          ∙ ap (λ w. judged w at (at + size) (read (next f) (at + size) (joined fs ++ rest))) h.1
          ∙ more.2 ∙ ap (λ n. read more.0 n rest) place,
    )

-- a book that the fields end with
pub read_good : (first : List (List ℕ)) (rest : List ℕ) (book : Book) → After book_format first (IsDone book) → read_of (joined first ++ rest) ≡ Ok (record { book = book; used = length (joined first) })
unfolding read_of read
read_good first rest book h =
    let over = read_over book_format 0 first rest (IsDone book) h in
    over.2 ∙ ends over.0 over.1 (0 + length (joined first))
    ∙ (let same : 0 + length (joined first) ≡ length (joined first) = omega arith in ap (λ n. Ok (record { book = book; used = n })) same)
  where
    ends : (last : Format) → IsDone book last → (at : ℕ) → read last at rest ≡ Ok (record { book = book; used = at })
    ends (Done other) is at = ap (λ b. Ok (record { book = b; used = at })) is
    ends (Field size fault next) is at = absurd is

-- what is wrong behind the good fields is the fault
pub read_wrong : (bytes : List ℕ) (kind : BookKind) (at : ℕ) → FaultAt bytes kind at → (used : ℕ) × (read_of bytes ≡ Err (record { kind = kind; at = at; used = used }))
unfolding read_of
read_wrong bytes kind at (first, rest, is, place, wrong) =
    let over = read_over book_format 0 first rest (IsWrong rest kind) wrong in
    let end = ends over.0 rest kind over.1 at in
    let here : 0 + length (joined first) ≡ at = omega (arith, place) in
    (end.0, ap (read book_format 0) is ∙ over.2 ∙ ap (λ n. read over.0 n rest) here ∙ end.1)
  where
    ends : (last : Format) (rest : List ℕ) (kind : BookKind) → IsWrong rest kind last → (at : ℕ) → (used : ℕ) × (read last at rest ≡ Err (record { kind = kind; at = at; used = used }))
    ends (Done other) rest kind h at = absurd h
    ends (Field size fault next) rest kind (inl h) at = (at + length rest, read_short size at fault next rest h.0 ∙ ap (λ k. Err (record { kind = k; at = at; used = at + length rest })) (sym h.1))
    ends (Field size fault next) rest kind (inr h) at = (
      at + size,
      read_whole size at fault next rest (take size rest) (drop size rest) (sym (take-append-drop size rest)) (length-take-le size rest h.0) ∙ ap (λ w. judged w at (at + size) (read (next (take size rest)) (at + size) (drop size rest))) h.1,
    )

-- what reading gave: a book that good fields end with, or what is wrong behind them
abbrev pub Gave : Format → ℕ → List ℕ → Result ReadBook BadBook → Type 0
Gave format at bytes (Ok found) =
    (first : List (List ℕ)) × (rest : List ℕ) × (bytes ≡ joined first ++ rest) × (found.used ≡ at + length (joined first)) × After format first (IsDone found.book)
Gave format at bytes (Err bad) =
    (first : List (List ℕ)) × (rest : List ℕ) × (bytes ≡ joined first ++ rest) × (bad.at ≡ at + length (joined first)) × After format first (IsWrong rest bad.kind)

-- one good field more in front
more_gave : (size at : ℕ) (fault : List ℕ → Option BookKind) (next : List ℕ → Format) (bytes : List ℕ) → size ≤ length bytes → fault (take size bytes) ≡ None → (r : Result ReadBook BadBook) → Gave (next (take size bytes)) (at + size) (drop size bytes) r → Gave (Field size fault next) at bytes r
more_gave size at fault next bytes enough fine (Ok found) (first, rest, is, used, good) =
    let long : length (take size bytes) ≡ size = length-take-le size bytes enough in (
      take size bytes ∷ first,
      rest,
      sym (take-append-drop size bytes) ∙ ap (λ l. take size bytes ++ l) is ∙ sym (append_assoc (take size bytes) (joined first) rest),
      omega (arith, used, long, length-append (take size bytes) (joined first)),
      (long, fine, good),
    )
more_gave size at fault next bytes enough fine (Err bad) (first, rest, is, used, wrong) =
    let long : length (take size bytes) ≡ size = length-take-le size bytes enough in (
      take size bytes ∷ first,
      rest,
      sym (take-append-drop size bytes) ∙ ap (λ l. take size bytes ++ l) is ∙ sym (append_assoc (take size bytes) (joined first) rest),
      omega (arith, used, long, length-append (take size bytes) (joined first)),
      (long, fine, wrong),
    )

-- reading gives such a book or such a fault
pub read_gave : (format : Format) (at : ℕ) (bytes : List ℕ) → Gave format at bytes (read format at bytes)
unfolding read
read_gave (Done book) at bytes = let here : at ≡ at + 0 = omega arith in ([], bytes, refl, here, refl)
read_gave (Field size fault next) at bytes =
    elim (nat_lt (length bytes) size) as (λ b. nat_lt (length bytes) size ≡ b → Gave (Field size fault next) at bytes (cond b (Err (record { kind = Truncated; at = at; used = at + length bytes })) (judged (fault (take size bytes)) at (at + size) (read (next (take size bytes)) (at + size) (drop size bytes))))) [
      | true ↦ λ short. ([], bytes, refl, here, inl (ltb-true (length bytes) size short, refl))
      | false ↦ λ enough. elim (fault (take size bytes)) as (λ w. fault (take size bytes) ≡ w → Gave (Field size fault next) at bytes (judged w at (at + size) (read (next (take size bytes)) (at + size) (drop size bytes)))) [
        | None ↦ λ fine. more_gave size at fault next bytes (ltb-false (length bytes) size enough) fine (read (next (take size bytes)) (at + size) (drop size bytes)) (read_gave (next (take size bytes)) (at + size) (drop size bytes))
        | Some kind ↦ λ wrong. ([], bytes, refl, here, inr (ltb-false (length bytes) size enough, wrong))
      ] refl
    ] refl
  where
    here : at ≡ at + 0
    here = omega arith

-- where reading answers a fault, it is one of the bytes
pub read_fault : (bytes : List ℕ) (bad : BadBook) → read_of bytes ≡ Err bad → FaultAt bytes bad.kind bad.at
unfolding read_of
read_fault bytes bad is =
    let gave = subst (Gave book_format 0 bytes) is (read_gave book_format 0 bytes) in
    (gave.0, gave.1, gave.2, omega (arith, gave.3), gave.4)

-- the fault in an answer
abbrev bad_in : BadBook → Result ReadBook BadBook → BadBook
bad_in other (Ok found) = other
bad_in other (Err bad) = bad

-- bytes with a fault have no other
pub one_fault : (bytes : List ℕ) (bad : BadBook) → read_of bytes ≡ Err bad → (kind : BookKind) (at : ℕ) → FaultAt bytes kind at → (bad.kind ≡ kind) × (bad.at ≡ at)
one_fault bytes bad is kind at h =
    let wrong = read_wrong bytes kind at h in
    let same : bad ≡ record { kind = kind; at = at; used = wrong.0 } = ap (bad_in bad) (sym is ∙ wrong.1) in
    (ap (λ (b : BadBook). b.kind) same, ap (λ (b : BadBook). b.at) same)

-- bytes that begin with a book have none
pub no_fault : (bytes : List ℕ) (found : ReadBook) → read_of bytes ≡ Ok found → (kind : BookKind) (at : ℕ) → FaultAt bytes kind at → ⊥
no_fault bytes found is kind at h =
    let no : true ≡ false = ap is_ok (sym is ∙ (read_wrong bytes kind at h).1) in
    cc

-- no bytes are cut short
pub read_none : (bytes : List ℕ) → bytes ≡ [] → read_of bytes ≡ Err (record { kind = Truncated; at = 0; used = 0 })
unfolding read_of read book_format
read_none bytes is = ap (read book_format 0) is

-- what was taken, by its answer
pub taken_some : (bytes : List ℕ) (left : Option (List ℕ)) (r : Result (Option ReadBook) NextBookError) (o : Option ReadBook) (found : ReadBook) → r ≡ Ok o → o ≡ Some found → TakesBook bytes left r → read_of bytes ≡ Ok found
taken_some bytes left r o found is some h = (subst (TakesBook bytes left) (is ∙ ap (λ x. Ok x) some) h).0

pub taken_none : (bytes : List ℕ) (left : Option (List ℕ)) (r : Result (Option ReadBook) NextBookError) (o : Option ReadBook) → r ≡ Ok o → o ≡ None → TakesBook bytes left r → read_of bytes ≡ Err (record { kind = Truncated; at = 0; used = 0 })
taken_none bytes left r o is none h = read_none bytes (subst (TakesBook bytes left) (is ∙ ap (λ x. Ok x) none) h).0

pub taken_bad : (bytes : List ℕ) (left : Option (List ℕ)) (r : Result (Option ReadBook) NextBookError) (e : NextBookError) (bad : BadBook) → r ≡ Err e → e ≡ Bad bad → TakesBook bytes left r → read_of bytes ≡ Err bad
taken_bad bytes left r e bad is which h = (subst (TakesBook bytes left) (is ∙ ap (λ x. Err x) which) h).1

-- ---- the fields of a book

-- the fields of an entry
abbrev pub entry_fields : Entry → List (List ℕ)
entry_fields entry = to_be_bytes w32 entry.1 ∷ to_be_bytes w16 (length entry.0) ∷ entry.0 ∷ []

abbrev pub all_fields : List Entry → List (List ℕ)
all_fields entries = flat_map entry_fields entries

-- the fields of a book
abbrev pub book_fields : Book → List (List ℕ)
book_fields book =
    BOOK_MAGIC ∷ (BOOK_VERSION ∷ []) ∷ to_be_bytes w32 book.epoch ∷ to_be_bytes w32 book.dropped ∷ to_be_bytes w32 (length book.entries) ∷ all_fields book.entries

joined-append : (xs ys : List (List ℕ)) → joined (xs ++ ys) ≡ joined xs ++ joined ys
joined-append [] ys = refl
joined-append (x ∷ xs) ys = ap (λ l. x ++ l) (joined-append xs ys) ∙ sym (append_assoc x (joined xs) (joined ys))

joined_entries : (es : List Entry) → joined (all_fields es) ≡ flat_map entry_bytes es
joined_entries [] = refl
joined_entries (e ∷ es) = ap (λ l. to_be_bytes w32 e.1 ++ (to_be_bytes w16 (length e.0) ++ (e.0 ++ l))) (joined_entries es) ∙ regroup (to_be_bytes w32 e.1) (to_be_bytes w16 (length e.0)) e.0 (flat_map entry_bytes es)
  where
    regroup : (a b c d : List ℕ) → a ++ (b ++ (c ++ d)) ≡ ((a ++ b) ++ c) ++ d
    regroup a b c d = sym (append_assoc (a ++ b) c d ∙ append_assoc a b (c ++ d))

joined_fields : (book : Book) → joined (book_fields book) ≡ spelling book
unfolding spelling
joined_fields book =
    ap (λ l. BOOK_MAGIC ++ ((BOOK_VERSION ∷ []) ++ (to_be_bytes w32 book.epoch ++ (to_be_bytes w32 book.dropped ++ (to_be_bytes w32 (length book.entries) ++ l))))) (joined_entries book.entries)
    ∙ regroup BOOK_MAGIC (BOOK_VERSION ∷ []) (to_be_bytes w32 book.epoch) (to_be_bytes w32 book.dropped) (to_be_bytes w32 (length book.entries)) (flat_map entry_bytes book.entries)
  where
    regroup : (a b c d e f : List ℕ) → a ++ (b ++ (c ++ (d ++ (e ++ f)))) ≡ ((((a ++ b) ++ c) ++ d) ++ e) ++ f
    regroup a b c d e f = sym (append_assoc (((a ++ b) ++ c) ++ d) e f ∙ append_assoc ((a ++ b) ++ c) d (e ++ f) ∙ append_assoc (a ++ b) c (d ++ (e ++ f)) ∙ append_assoc a b (c ++ (d ++ (e ++ f))))

-- the frame behind others is above the last of them
above_last : (pre : List Entry) (x : Entry) (es : List Entry) → Rises (pre ++ x ∷ es) → is_above (last_of pre) x.0 ≡ true
unfolding IsStrictlySortedBy
above_last [] x es h = refl
above_last (y ∷ []) x es h = ap is_lt h.0.0
above_last (y ∷ z ∷ pre) x es h = ap (λ last. is_above last x.0) (last_later y z pre) ∙ above_last (z ∷ pre) x es h.1

bytes_same : (a : List ℕ) → bytes_eq a a ≡ true
bytes_same a = (bytes_decides a a).1 refl

-- nothing is wrong with a count in its range
count_fine : (book : Book) (n : ℕ) → 1 ≤ n → total_of book + n ≤ MAX_RECORDS → count_fault book n ≡ None
count_fine book n some few =
    let enough : (n == 0) ≡ false = elim (n == 0) as (λ b. (n == 0) ≡ b → b ≡ false) [
      | true ↦ λ e. absurd (let none : n ≡ 0 = eqb-true n 0 e in omega (arith, none, some))
      | false ↦ λ e. refl
    ] refl in
    ap (λ b. cond (b || nat_lt MAX_RECORDS (total_of book + n)) (Some Count) None) enough
    ∙ ap (λ b. cond b (Some Count) None) (le-ltb MAX_RECORDS (total_of book + n) few)

frame_fine : (book : Book) (f : List ℕ) → is_outer_frame book.epoch f ≡ true → is_above (last_of book.entries) f ≡ true → frame_fault book f ≡ None
frame_fine book f good above =
    ap (λ b. cond (not b) (Some Frame) (unless (is_above (last_of book.entries) f) Order)) good ∙ ap (λ b. unless b Order) above

part_of : (P : ℕ → Type 0) (pre : List Entry) (x : Entry) (es : List Entry) → All P (values_of (pre ++ x ∷ es)) → P x.1
part_of P [] x es h = All-head P x.1 (values_of es) h
part_of P (y ∷ pre) x es h = part_of P pre x es (All-tail P y.1 (values_of (pre ++ x ∷ es)) h)

frame_of : (P : List ℕ → Type 0) (pre : List Entry) (x : Entry) (es : List Entry) → All P (keys_of (pre ++ x ∷ es)) → P x.0
frame_of P [] x es h = All-head P x.0 (keys_of es) h
frame_of P (y ∷ pre) x es h = frame_of P pre x es (All-tail P y.0 (keys_of (pre ++ x ∷ es)) h)

part_total : (pre : List Entry) (x : Entry) (es : List Entry) → sum (values_of pre) + x.1 ≤ sum (values_of (pre ++ x ∷ es))
part_total pre x es =
    let all : sum (values_of (pre ++ x ∷ es)) ≡ sum (values_of pre) + sum (values_of (x ∷ es)) = ap sum (map-append (λ (y : Entry). y.1) pre (x ∷ es)) ∙ sum_by-append (λ n. n) (values_of pre) (values_of (x ∷ es)) in
    omega (arith, all, sum_by-cons (λ n. n) x.1 (values_of es))

-- the fields of the entries of a book are good
entries_good : (es : List Entry) (e d : ℕ) (pre : List Entry) → IsBook (record { epoch = e; dropped = d; entries = pre ++ es }) → After (entries_format (length es) (record { epoch = e; dropped = d; entries = pre })) (all_fields es) (IsDone (record { epoch = e; dropped = d; entries = pre ++ es }))
unfolding entries_format
entries_good [] e d pre h = λ i. record { epoch = e; dropped = d; entries = sym (append-nil pre) i }
entries_good (x ∷ es) e d pre h =
    let book : Book = record { epoch = e; dropped = d; entries = pre } in
    let total = part_total pre x es in
    let bound : x.1 < 2 ^ 32 = omega (arith, total, h.few) in
    let good : is_outer_frame e x.0 ≡ true = frame_of (λ f. is_outer_frame e f ≡ true) pre x es h.frames in
    let short : length x.0 < 2 ^ 16 = omega (arith, short_frame e x.0 good) in
    let count : from_be_bytes w32 (to_be_bytes w32 x.1) ≡ x.1 = from_be_bytes-to_be_bytes_4 x.1 bound in
    let size : from_be_bytes w16 (to_be_bytes w16 (length x.0)) ≡ length x.0 = from_be_bytes-to_be_bytes_2 (length x.0) short in
    let again : (pre ++ x ∷ []) ++ es ≡ pre ++ x ∷ es = append_assoc pre (x ∷ []) es in
    let rest : After (entries_format (length es) (record { epoch = e; dropped = d; entries = pre ++ x ∷ [] })) (all_fields es) (IsDone (record { epoch = e; dropped = d; entries = pre ++ x ∷ es })) =
    subst (λ l. After (entries_format (length es) (record { epoch = e; dropped = d; entries = pre ++ x ∷ [] })) (all_fields es) (IsDone (record { epoch = e; dropped = d; entries = l }))) again
    (entries_good es e d (pre ++ x ∷ []) (subst (λ l. IsBook (record { epoch = e; dropped = d; entries = l })) (sym again) h)) in (
      refl,
      ap (count_fault book) count ∙ count_fine book x.1 (part_of (λ n. 1 ≤ n) pre x es h.counts) (omega (arith, total, h.few)),
      (
        refl,
        refl,
        (
          sym size,
          frame_fine book x.0 good (above_last pre x es h.ascending),
          subst (λ n. After (entries_format (length es) (with_entry book x.0 n)) (all_fields es) (IsDone (record { epoch = e; dropped = d; entries = pre ++ x ∷ es }))) (sym count) rest,
        ),
      ),
    )

-- the fields of a book are good
pub book_good : (book : Book) → IsBook book → After book_format (book_fields book) (IsDone book)
unfolding book_format
book_good book h =
    let few : length book.entries ≤ sum (values_of book.entries) = few_entries book.entries h.counts in
    let epoch = from_be_bytes-to_be_bytes_4 book.epoch h.epoch in
    let dropped = from_be_bytes-to_be_bytes_4 book.dropped (omega (arith, h.few)) in
    let number = from_be_bytes-to_be_bytes_4 (length book.entries) (omega (arith, few, h.few)) in (
      refl,
      ap (λ b. unless b Magic) (bytes_same BOOK_MAGIC),
      (
        refl,
        ap (λ b. unless b Version) (bytes_same (BOOK_VERSION ∷ [])),
        (
          refl,
          refl,
          (
            refl,
            ap (λ n. unless (not (nat_lt MAX_RECORDS n)) Count) dropped ∙ ap (λ b. unless (not b) Count) (le-ltb MAX_RECORDS book.dropped (omega (arith, h.few))),
            (
              refl,
              refl,
              subst (λ n. After (entries_format n (record { epoch = from_be_bytes w32 (to_be_bytes w32 book.epoch); dropped = from_be_bytes w32 (to_be_bytes w32 book.dropped); entries = [] })) (all_fields book.entries) (IsDone book)) (sym number)
                  (subst (λ n. After (entries_format (length book.entries) (record { epoch = n; dropped = from_be_bytes w32 (to_be_bytes w32 book.dropped); entries = [] })) (all_fields book.entries) (IsDone book)) (sym epoch)
                  (subst (λ n. After (entries_format (length book.entries) (record { epoch = book.epoch; dropped = n; entries = [] })) (all_fields book.entries) (IsDone book)) (sym dropped)
                  (entries_good book.entries book.epoch book.dropped [] h))),
            ),
          ),
        ),
      ),
    )

-- what begins with the spelling of a book is read as that book
pub spelling_read : (book : Book) (bytes rest : List ℕ) → Begins book bytes rest → read_of bytes ≡ Ok (record { book = book; used = length (spelling book) })
spelling_read book bytes rest h =
    ap read_of (h.spelt ∙ ap (λ l. l ++ rest) (sym (joined_fields book)))
    ∙ read_good (book_fields book) rest book (book_good book h.is_book)
    ∙ ap (λ l. Ok (record { book = book; used = length l })) (joined_fields book)

-- ---- the book that fields spell

spelt_4 : (bytes : List ℕ) → length bytes ≡ 4 → AreBytes bytes → to_be_bytes w32 (from_be_bytes w32 bytes) ≡ bytes
spelt_4 bytes long small = be_bytes_4 bytes (from_be_bytes w32 bytes) long (λ i. AreBytes-get_or bytes i small) refl

spelt_2 : (bytes : List ℕ) → length bytes ≡ 2 → AreBytes bytes → to_be_bytes w16 (from_be_bytes w16 bytes) ≡ bytes
spelt_2 bytes long small = be_bytes_2 bytes (from_be_bytes w16 bytes) long (λ i. AreBytes-get_or bytes i small) refl

number_small : (bytes : List ℕ) → AreBytes bytes → from_be_bytes w32 bytes < 2 ^ 32
number_small bytes small = omega (arith, AreBytes-get_or bytes 0 small, AreBytes-get_or bytes 1 small, AreBytes-get_or bytes 2 small, AreBytes-get_or bytes 3 small)

-- good fields of entries are those of entries, and with these the book is one
entries_back : (n e d t : ℕ) (pre : List Entry) (fields : List (List ℕ)) (book : Book) → AreBytes (joined fields) → IsBookOf e d t pre → After (entries_format n (record { epoch = e; dropped = d; entries = pre })) fields (IsDone book) → (es : List Entry) × (length es ≡ n) × (book ≡ record { epoch = e; dropped = d; entries = pre ++ es }) × (joined fields ≡ joined (all_fields es)) × IsBook book
unfolding entries_format
entries_back zero e d t pre [] book small is h = ([], refl, sym h ∙ (λ i. record { epoch = e; dropped = d; entries = sym (append-nil pre) i }), refl, subst IsBook h is.is_book)
entries_back zero e d t pre (f ∷ fs) book small is h = absurd h
entries_back (suc n) e d t pre [] book small is h = absurd h
entries_back (suc n) e d t pre (a ∷ []) book small is h = absurd h.2
entries_back (suc n) e d t pre (a ∷ b ∷ []) book small is h = absurd h.2.2
entries_back (suc n) e d t pre (a ∷ b ∷ f ∷ fs) book small is h =
    let acc : Book = record { epoch = e; dropped = d; entries = pre } in
    let count = count_is_good acc (from_be_bytes w32 a) h.1 in
    let frame = frame_is_good acc f h.2.2.1 in
    let behind_a = AreBytes-append_right a (b ++ (f ++ joined fs)) small in
    let behind_b = AreBytes-append_right b (f ++ joined fs) behind_a in
    let more = entries_back n e d (t + from_be_bytes w32 a) (pre ++ (f, from_be_bytes w32 a) ∷ []) fs book (AreBytes-append_right f (joined fs) behind_b)
    (pushed_book e d t (from_be_bytes w32 a) f pre is frame.0 frame.1 count.0 (omega (arith, is.total_is, count.1))) h.2.2.2 in
    let size : to_be_bytes w16 (length f) ≡ b = ap (to_be_bytes w16) h.2.2.0 ∙ spelt_2 b h.2.0 (AreBytes-append_left b (f ++ joined fs) behind_a) in (
      (f, from_be_bytes w32 a) ∷ more.0,
      ap suc more.1,
      more.2 ∙ ap (λ l. record { epoch = e; dropped = d; entries = l }) (append_assoc pre ((f, from_be_bytes w32 a) ∷ []) more.0),
      (λ i. sym (spelt_4 a h.0 (AreBytes-append_left a (b ++ (f ++ joined fs)) small)) i ++ (sym size i ++ (f ++ more.3 i))),
      more.4,
    )

magic_is : (a : List ℕ) → unless (bytes_eq a BOOK_MAGIC) Magic ≡ None → a ≡ BOOK_MAGIC
magic_is a h = (bytes_decides a BOOK_MAGIC).0 (unless_none (bytes_eq a BOOK_MAGIC) Magic h)

version_is : (a : List ℕ) → unless (bytes_eq a (BOOK_VERSION ∷ [])) Version ≡ None → a ≡ BOOK_VERSION ∷ []
version_is a h = (bytes_decides a (BOOK_VERSION ∷ [])).0 (unless_none (bytes_eq a (BOOK_VERSION ∷ [])) Version h)

few_dropped : (n : ℕ) → unless (not (nat_lt MAX_RECORDS n)) Count ≡ None → n ≤ MAX_RECORDS
few_dropped n h = elim (nat_lt MAX_RECORDS n) as (λ b. nat_lt MAX_RECORDS n ≡ b → unless (not b) Count ≡ None → n ≤ MAX_RECORDS) [
  | true ↦ λ more h. absurd (none-some Count (sym h))
  | false ↦ λ few h. ltb-false MAX_RECORDS n few
] refl h

-- good fields that end with a book are its fields
book_back : (fields : List (List ℕ)) (book : Book) → AreBytes (joined fields) → After book_format fields (IsDone book) → IsBook book × (joined fields ≡ joined (book_fields book))
unfolding book_format
book_back [] book small h = absurd h
book_back (m ∷ []) book small h = absurd h.2
book_back (m ∷ v ∷ []) book small h = absurd h.2.2
book_back (m ∷ v ∷ e ∷ []) book small h = absurd h.2.2.2
book_back (m ∷ v ∷ e ∷ d ∷ []) book small h = absurd h.2.2.2.2
book_back (m ∷ v ∷ e ∷ d ∷ n ∷ fields) book small h =
    let after_m = AreBytes-append_right m (v ++ (e ++ (d ++ (n ++ joined fields)))) small in
    let after_v = AreBytes-append_right v (e ++ (d ++ (n ++ joined fields))) after_m in
    let after_e = AreBytes-append_right e (d ++ (n ++ joined fields)) after_v in
    let after_d = AreBytes-append_right d (n ++ joined fields) after_e in
    let bytes_e = AreBytes-append_left e (d ++ (n ++ joined fields)) after_v in
    let bytes_d = AreBytes-append_left d (n ++ joined fields) after_e in
    let bytes_n = AreBytes-append_left n (joined fields) after_d in
    let few = few_dropped (from_be_bytes w32 d) h.2.2.2.1 in
    let small_e : from_be_bytes w32 e < 2 ^ 32 = number_small e bytes_e in
    let back = entries_back (from_be_bytes w32 n) (from_be_bytes w32 e) (from_be_bytes w32 d) (from_be_bytes w32 d) [] fields book (AreBytes-append_right n (joined fields) after_d) (dropped_book (from_be_bytes w32 e) (from_be_bytes w32 d) small_e few) h.2.2.2.2.2 in
    let epoch : to_be_bytes w32 book.epoch ≡ e = ap (λ (b : Book). to_be_bytes w32 b.epoch) back.2 ∙ spelt_4 e h.2.2.0 bytes_e in
    let dropped : to_be_bytes w32 book.dropped ≡ d = ap (λ (b : Book). to_be_bytes w32 b.dropped) back.2 ∙ spelt_4 d h.2.2.2.0 bytes_d in
    let number : to_be_bytes w32 (length book.entries) ≡ n = ap (λ (b : Book). to_be_bytes w32 (length b.entries)) back.2 ∙ ap (to_be_bytes w32) back.1 ∙ spelt_4 n h.2.2.2.2.0 bytes_n in
    let entries : joined fields ≡ joined (all_fields book.entries) = back.3 ∙ ap (λ (b : Book). joined (all_fields b.entries)) (sym back.2) in (
      back.4,
      (λ i. magic_is m h.1 i ++ (version_is v h.2.1 i ++ (sym epoch i ++ (sym dropped i ++ (sym number i ++ entries i))))),
    )

-- bytes that are read as a book begin with its spelling
pub read_spelling : (bytes : List ℕ) (found : ReadBook) → AreBytes bytes → read_of bytes ≡ Ok found → (rest : List ℕ) × Begins found.book bytes rest × (found.used ≡ length (spelling found.book))
unfolding read_of
read_spelling bytes found small is =
    let gave = subst (Gave book_format 0 bytes) is (read_gave book_format 0 bytes) in
    let back = book_back gave.0 found.book (AreBytes-append_left (joined gave.0) gave.1 (subst AreBytes gave.2 small)) gave.4 in
    let spelt : joined gave.0 ≡ spelling found.book = back.1 ∙ joined_fields found.book in (
      gave.1,
      record { is_book = back.0; spelt = gave.2 ∙ ap (λ l. l ++ gave.1) spelt },
      (let used : found.used ≡ length (joined gave.0) = omega (arith, gave.3) in used ∙ ap length spelt),
    )

-- ---- what an answer says of the books with which bytes begin

-- the book in an answer
abbrev book_in : Book → Result ReadBook BadBook → Book
book_in other (Ok found) = found.book
book_in other (Err bad) = other

-- no other book
pub only_book : (bytes : List ℕ) (found : ReadBook) → read_of bytes ≡ Ok found → (book : Book) (rest : List ℕ) → Begins book bytes rest → found.book ≡ book
only_book bytes found is book rest h = ap (book_in book) (sym is ∙ spelling_read book bytes rest h)

-- none at all
pub no_book : (bytes : List ℕ) (bad : BadBook) → read_of bytes ≡ Err bad → (book : Book) (rest : List ℕ) → Begins book bytes rest → ⊥
no_book bytes bad is book rest h =
    let no : false ≡ true = ap is_ok (sym is ∙ spelling_read book bytes rest h) in
    cc

-- what is read begins the bytes, and the rest is behind it
pub begins_at : (bytes : List ℕ) (found : ReadBook) → AreBytes bytes → read_of bytes ≡ Ok found → Begins found.book bytes (drop found.used bytes)
begins_at bytes found small is =
    let spelt = read_spelling bytes found small is in
    let behind : drop found.used bytes ≡ spelt.0 = ap₂ (λ (n : ℕ) (l : List ℕ). drop n l) spelt.2 spelt.1.spelt ∙ drop-append_seam (spelling found.book) spelt.0 in
    subst (Begins found.book bytes) (sym behind) spelt.1
