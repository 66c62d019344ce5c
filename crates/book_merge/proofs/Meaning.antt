-- What the sum of the books of some bytes is, and what it means that they have none.
use Rattle.std.proofs.Common.{◌≡◌, ◌≢◌, ◌⊎◌, ℕ, zero, suc, ◌+◌, ◌<◌, ◌≤◌, List, [], ◌∷◌, length, drop, sum, Result, Ok, Err, inl, inr, refl, sym, ap, ◌∙◌, subst, arith}
use Rattle.std.specs.Prelude.{◌↔◌}
use Rattle.std.proofs.lemmas.Bool.{cases_lt, cases_eq, lt-ltb, le-ltb, eq-eqb, ne_eqb}
use Rattle.std.proofs.lemmas.List.{length-drop}
use Rattle.std.proofs.Math.Seq.{drop-append_seam}
use Rattle.star_io.specs.Bytes.{AreBytes}
use Rattle.star_io.proofs.ByteLists.{AreBytes-drop}
use Rattle.star_io.specs.declared.record.TheConstants.{MAX_RECORDS}
use Rattle.book_file.specs.Book.{Book, total_of}
use Rattle.book_file.specs.BookOf.{sum_of}
use Rattle.book_file.specs.Format.{FaultAt}
use Rattle.book_file.specs.Spelling.{Begins, spelling}
use Rattle.book_file.specs.Reading.{read_of}
use Rattle.book_file.specs.declared.book_kind.BookKind.{BookKind}
use Rattle.book_file.specs.declared.book_error.BadBook.{BadBook}
use Rattle.book_file.specs.declared.book_error.ReadBook.{ReadBook}
use Rattle.book_file.proofs.Spelled.{begins_at, read_fault, read_wrong, spelling_read}
use Rattle.book_merge.specs.declared.fault.MergeFault.{MergeFault}
use Rattle.book_merge.specs.declared.fault.MergeFault.TheVariants.{TooMany, BadBook as BadBookFault, BookEpoch}
use Rattle.book_merge.specs.declared.limits.TheConstants.{MAX_BOOKS_BYTES}
use Rattle.book_merge.specs.Merging.{Reading, readings, added, with_readings, empty_book, merged}
use Rattle.book_merge.specs.Sums.{BeginBooks, with_books, CanAdd, Books, IsSumOf, HasBadBook, HasOtherEpoch, HasTooMuch}
use Rattle.book_merge.proofs.Readings.{used-least, readings-nil, readings-more}
use Rattle.book_merge.proofs.Sums.{not_empty, few_merged, many_merged}

-- ---- one book more

-- a book of the epoch is added
adds : (number : ℕ) (s book : Book) → book.epoch ≡ s.epoch → total_of s + total_of book ≤ MAX_RECORDS → added number s book ≡ Ok (sum_of s book)
adds number s book same few = rw (eq-eqb book.epoch s.epoch same, le-ltb MAX_RECORDS (total_of s + total_of book) few) refl

-- one of another is none
other_epoch : (number : ℕ) (s book : Book) → (book.epoch ≡ s.epoch → ⊥) → added number s book ≡ Err (BookEpoch number book.epoch)
other_epoch number s book differs = rw (ne_eqb book.epoch s.epoch differs) refl

-- nor is one with too many records
too_much : (number : ℕ) (s book : Book) → book.epoch ≡ s.epoch → MAX_RECORDS < total_of s + total_of book → added number s book ≡ Err TooMany
too_much number s book same many = rw (eq-eqb book.epoch s.epoch same, lt-ltb MAX_RECORDS (total_of s + total_of book) many) refl

-- the first fault stays
stays : (number : ℕ) (fault : MergeFault) (others : List Reading) → with_readings number (Err fault) others ≡ Err fault
stays number fault [] = refl
stays number fault (Ok found ∷ others) = stays (number + 1) fault others
stays number fault (Err bad ∷ others) = stays (number + 1) fault others

-- what the first book of bytes makes of the sum so far
first_added : (number : ℕ) (s : Book) (bytes : List ℕ) (found : ReadBook) (outcome : Result Book MergeFault) → read_of bytes ≡ Ok found → added number s found.book ≡ outcome
    → with_readings number (Ok s) (readings bytes) ≡ with_readings (number + 1) outcome (readings (drop found.used bytes))
first_added number s bytes found outcome is adding =
    ap (with_readings number (Ok s)) (readings-more bytes (Ok found) (not_empty bytes found is) is)
    ∙ ap (λ (r : Result Book MergeFault). with_readings (number + 1) r (readings (drop found.used bytes))) adding

first_refused : (number : ℕ) (s : Book) (bytes : List ℕ) (found : ReadBook) (fault : MergeFault) → read_of bytes ≡ Ok found → added number s found.book ≡ Err fault
    → with_readings number (Ok s) (readings bytes) ≡ Err fault
first_refused number s bytes found fault is adding = first_added number s bytes found (Err fault) is adding ∙ stays (number + 1) fault (readings (drop found.used bytes))

first_bad : (number : ℕ) (s : Book) (bytes : List ℕ) (bad : BadBook) → 0 < length bytes → read_of bytes ≡ Err bad
    → with_readings number (Ok s) (readings bytes) ≡ Err (BadBookFault number bad.kind bad.at)
first_bad number s bytes bad some is =
    ap (with_readings number (Ok s)) (readings-more bytes (Err bad) some is) ∙ ap (with_readings (number + 1) (Err (BadBookFault number bad.kind bad.at))) readings-nil

-- ---- single books

of_first : (a b : Book) → (sum_of a b).epoch ≡ a.epoch
unfolding sum_of
of_first a b = refl

-- a book is read, and what follows it is left
read_back : (book : Book) (bytes rest : List ℕ) → Begins book bytes rest → (found : ReadBook) × (read_of bytes ≡ Ok found) × (found.book ≡ book) × (drop found.used bytes ≡ rest)
read_back book bytes rest begins = (
  record { book = book; used = length (spelling book) },
  spelling_read book bytes rest begins,
  refl,
  ap (drop (length (spelling book))) begins.spelt ∙ drop-append_seam (spelling book) rest,
)

-- ---- books that can be added

-- what becomes of books that can be added
walked : (books : List Book) (e number m : ℕ) (s : Book) (bytes rest : List ℕ) → m ≡ number + length books → s.epoch ≡ e → BeginBooks books bytes rest → CanAdd e s books
    → (with_readings number (Ok s) (readings bytes) ≡ with_readings m (Ok (with_books s books)) (readings rest)) × ((with_books s books).epoch ≡ e)
walked [] e number m s bytes rest count so begin can = (
  ap (λ (b : List ℕ). with_readings number (Ok s) (readings b)) begin ∙ ap (λ (n : ℕ). with_readings n (Ok s) (readings rest)) (let same : number ≡ m = omega (arith, count) in same),
  so,
)
walked (book ∷ books) e number m s bytes rest count so begin can =
    let c = read_back book bytes begin.0 begin.1 in
    let adding : added number s c.0.book ≡ Ok (sum_of s book) =
    subst (λ (b : Book). added number s b ≡ Ok (sum_of s book)) (sym c.2) (adds number s book (can.0 ∙ sym so) can.1) in
    let rec = walked books e (number + 1) m (sum_of s book) begin.0 rest (omega (arith, count)) (of_first s book ∙ so) begin.2 can.2 in
    (first_added number s bytes c.0 (Ok (sum_of s book)) c.1 adding ∙ ap (λ (b : List ℕ). with_readings (number + 1) (Ok (sum_of s book)) (readings b)) c.3 ∙ rec.0, rec.1)

-- ---- what there is

-- Behind books that can be added the bytes end, or something is wrong, and the outcome says which.
abbrev Means : (e number : ℕ) (s : Book) (books : List Book) (rest : List ℕ) → Result Book MergeFault → Type 0
Means e number s books rest outcome =
    ((rest ≡ []) × (outcome ≡ Ok (with_books s books)))
    ⊎ ((kind : BookKind) × (at : ℕ) × (0 < length rest) × FaultAt rest kind at × (outcome ≡ Err (BadBookFault number kind at)))
    ⊎ ((book : Book) × (after : List ℕ) × Begins book rest after × (book.epoch ≢ e) × (outcome ≡ Err (BookEpoch number book.epoch)))
    ⊎ ((book : Book) × (after : List ℕ) × Begins book rest after × (book.epoch ≡ e) × (MAX_RECORDS < total_of (with_books s books) + total_of book) × (outcome ≡ Err TooMany))

record Meant (e number : ℕ) (s : Book) (bytes : List ℕ) (outcome : Result Book MergeFault) : Type 0 where
  books : List Book
  rest : List ℕ
  begin : BeginBooks books bytes rest
  can : CanAdd e s books
  means : Means e (number + length books) s books rest outcome

-- at the first bytes
here : (e number : ℕ) (s : Book) (bytes : List ℕ) (outcome : Result Book MergeFault) → Means e number s [] bytes outcome → Meant e number s bytes outcome
here e number s bytes outcome means = record {
  books = [];
  rest = bytes;
  begin = refl;
  can = tt;
  means = subst (λ (n : ℕ). Means e n s [] bytes outcome) (let same : number ≡ number + length {A = Book} [] = omega arith in same) means;
}

-- behind a book that is added
later : (e number : ℕ) (s book : Book) (bytes after : List ℕ) (outcome : Result Book MergeFault) → Begins book bytes after → book.epoch ≡ e → total_of s + total_of book ≤ MAX_RECORDS
    → Meant e (number + 1) (sum_of s book) after outcome → Meant e number s bytes outcome
later e number s book bytes after outcome begins of_epoch room meant = record {
  books = book ∷ meant.books;
  rest = meant.rest;
  begin = (after, begins, meant.begin);
  can = (of_epoch, room, meant.can);
  means = subst (λ (n : ℕ). Means e n s (book ∷ meant.books) meant.rest outcome) (let same : number + 1 + length meant.books ≡ number + length (book ∷ meant.books) = omega arith in same) meant.means;
}

-- what is shown of fewer bytes
abbrev OfFewer : (n e : ℕ) → Type 0
OfFewer n e = (number : ℕ) (s : Book) (bytes : List ℕ) → AreBytes bytes → length bytes ≤ n → s.epoch ≡ e → Meant e number s bytes (with_readings number (Ok s) (readings bytes))

of_book : (n e number : ℕ) (s : Book) (bytes : List ℕ) (found : ReadBook) → AreBytes bytes → length bytes ≤ suc n → s.epoch ≡ e → OfFewer n e → read_of bytes ≡ Ok found
    → (found.book.epoch ≡ e) ⊎ (found.book.epoch ≡ e → ⊥) → Meant e number s bytes (with_readings number (Ok s) (readings bytes))
of_book n e number s bytes found are few so fewer is (inr differs) =
    here e number s bytes _ (inr (inr (inl (
      found.book,
      drop found.used bytes,
      begins_at bytes found are is,
      differs,
      first_refused number s bytes found (BookEpoch number found.book.epoch) is (other_epoch number s found.book (λ q. differs (q ∙ so))),
    ))))
of_book n e number s bytes found are few so fewer is (inl same) = elim (cases_lt MAX_RECORDS (total_of s + total_of found.book)) [
  | inl many ↦
      here e number s bytes _ (inr (inr (inr (
        found.book,
        drop found.used bytes,
        begins_at bytes found are is,
        same,
        many,
        first_refused number s bytes found TooMany is (too_much number s found.book (same ∙ sym so) many),
      ))))
  | inr room ↦
      let less : length (drop found.used bytes) ≤ n = omega (arith, few, length-drop found.used bytes, used-least bytes found is) in
      later e number s found.book bytes (drop found.used bytes) _ (begins_at bytes found are is) same room
      (subst (λ (o : Result Book MergeFault). Meant e (number + 1) (sum_of s found.book) (drop found.used bytes) o)
      (sym (first_added number s bytes found (Ok (sum_of s found.book)) is (adds number s found.book (same ∙ sym so) room)))
      (fewer (number + 1) (sum_of s found.book) (drop found.used bytes) (AreBytes-drop found.used bytes are) less (of_first s found.book ∙ so)))
]

judged : (n e number : ℕ) (s : Book) (bytes : List ℕ) (reading : Reading) → 0 < length bytes → AreBytes bytes → length bytes ≤ suc n → s.epoch ≡ e → OfFewer n e → read_of bytes ≡ reading
    → Meant e number s bytes (with_readings number (Ok s) (readings bytes))
judged n e number s bytes (Err bad) some are few so fewer is = here e number s bytes _ (inr (inl (bad.kind, bad.at, some, read_fault bytes bad is, first_bad number s bytes bad some is)))
judged n e number s bytes (Ok found) some are few so fewer is = of_book n e number s bytes found are few so fewer is (cases_eq found.book.epoch e)

meant : (n e number : ℕ) (s : Book) (bytes : List ℕ) → AreBytes bytes → length bytes ≤ n → s.epoch ≡ e → Meant e number s bytes (with_readings number (Ok s) (readings bytes))
meant n e number s [] are few so = here e number s [] (with_readings number (Ok s) (readings [])) (inl (refl, ap (with_readings number (Ok s)) readings-nil))
meant zero e number s (b ∷ bytes) are few so = absurd (omega (arith, few))
meant (suc n) e number s (b ∷ bytes) are few so =
    judged n e number s (b ∷ bytes) (read_of (b ∷ bytes)) (omega arith) are few so (λ number s bytes are few so. meant n e number s bytes are few so) refl

-- ---- of all bytes

-- The bytes have a sum, or something is wrong, and the outcome says which.
abbrev Whole : (e : ℕ) (bytes : List ℕ) → Result Book MergeFault → Type 0
Whole e bytes outcome =
    ((total : Book) × IsSumOf e bytes total × (outcome ≡ Ok total))
    ⊎ ((number : ℕ) × (kind : BookKind) × (at : ℕ) × HasBadBook e bytes number kind at × (outcome ≡ Err (BadBookFault number kind at)))
    ⊎ ((number : ℕ) × (have : ℕ) × HasOtherEpoch e bytes number have × (outcome ≡ Err (BookEpoch number have)))
    ⊎ (HasTooMuch e bytes × (outcome ≡ Err TooMany))

of_meant : (e : ℕ) (bytes : List ℕ) (outcome : Result Book MergeFault) → length bytes ≤ MAX_BOOKS_BYTES → Meant e 0 (empty_book e) bytes outcome → Whole e bytes outcome
of_meant e bytes outcome within m = go m.means
  where
    before : Books e bytes m.rest
    before = record { within = within; books = m.books; begin = m.begin; can_add = m.can }

    count : length m.books ≡ 0 + length m.books
    count = omega arith

    go : Means e (0 + length m.books) (empty_book e) m.books m.rest outcome → Whole e bytes outcome
    go (inl (none, is)) = inl (with_books (empty_book e) m.books, (record { within = within; books = m.books; begin = subst (BeginBooks m.books bytes) none m.begin; can_add = m.can }, refl), is)
    go (inr (inl (kind, at, some, fault, is))) = inr (inl (0 + length m.books, kind, at, (m.rest, before, count, some, fault), is))
    go (inr (inr (inl (book, after, begins, differs, is)))) = inr (inr (inl (0 + length m.books, book.epoch, (book, m.rest, after, before, count, begins, refl, differs), is)))
    go (inr (inr (inr (book, after, begins, same, many, is)))) = inr (inr (inr (inr (book, m.rest, after, before, begins, same, many), is)))

whole : (e : ℕ) (bytes : List ℕ) → AreBytes bytes → Whole e bytes (merged e bytes)
whole e bytes are = elim (cases_lt MAX_BOOKS_BYTES (length bytes)) [
  | inl many ↦ inr (inr (inr (inl many, many_merged e bytes many)))
  | inr few ↦ subst (Whole e bytes) (sym (few_merged e bytes few)) (of_meant e bytes _ few (meant (length bytes) e 0 (empty_book e) bytes are (omega arith) refl))
]

-- behind books that can be added
behind_books : (e number : ℕ) (bytes rest : List ℕ) → (adds : Books e bytes rest) → length adds.books ≡ number
    → (merged e bytes ≡ with_readings number (Ok (with_books (empty_book e) adds.books)) (readings rest)) × ((with_books (empty_book e) adds.books).epoch ≡ e)
behind_books e number bytes rest adds many =
    let w = walked adds.books e 0 number (empty_book e) bytes rest (omega (arith, many)) refl adds.begin adds.can_add in
    (few_merged e bytes adds.within ∙ w.0, w.1)

pub sum_back : (e : ℕ) (bytes : List ℕ) (total : Book) → IsSumOf e bytes total → merged e bytes ≡ Ok total
sum_back e bytes total (all, is) =
    (behind_books e (length all.books) bytes [] all refl).0 ∙ ap (with_readings (length all.books) (Ok (with_books (empty_book e) all.books))) readings-nil ∙ ap (λ (b : Book). Ok b) (sym is)

bad_back : (e : ℕ) (bytes : List ℕ) (number : ℕ) (kind : BookKind) (at : ℕ) → HasBadBook e bytes number kind at → merged e bytes ≡ Err (BadBookFault number kind at)
bad_back e bytes number kind at (rest, adds, many, some, fault) =
    let bad = read_wrong rest kind at fault in
    (behind_books e number bytes rest adds many).0 ∙ first_bad number (with_books (empty_book e) adds.books) rest (record { kind = kind; at = at; used = bad.0 }) some bad.1

epoch_back : (e : ℕ) (bytes : List ℕ) (number have : ℕ) → HasOtherEpoch e bytes number have → merged e bytes ≡ Err (BookEpoch number have)
epoch_back e bytes number have (book, rest, after, adds, many, begins, is, differs) =
    let b = behind_books e number bytes rest adds many in
    let c = read_back book rest after begins in
    let epoch : c.0.book.epoch ≡ have = ap (λ (b : Book). b.epoch) c.2 ∙ is in
    b.0 ∙ first_refused number (with_books (empty_book e) adds.books) rest c.0 (BookEpoch number c.0.book.epoch) c.1
    (other_epoch number (with_books (empty_book e) adds.books) c.0.book (λ q. differs (sym epoch ∙ q ∙ b.1)))
    ∙ ap (λ (n : ℕ). Err (BookEpoch number n)) epoch

much_back : (e : ℕ) (bytes : List ℕ) → HasTooMuch e bytes → merged e bytes ≡ Err TooMany
much_back e bytes (inl many) = many_merged e bytes many
much_back e bytes (inr (book, rest, after, adds, begins, same, many)) =
    let b = behind_books e (length adds.books) bytes rest adds refl in
    let c = read_back book rest after begins in
    let epoch : c.0.book.epoch ≡ (with_books (empty_book e) adds.books).epoch = ap (λ (b : Book). b.epoch) c.2 ∙ same ∙ sym b.1 in
    let over : MAX_RECORDS < total_of (with_books (empty_book e) adds.books) + total_of c.0.book = omega (arith, many, ap total_of c.2) in
    b.0 ∙ first_refused (length adds.books) (with_books (empty_book e) adds.books) rest c.0 TooMany c.1 (too_much (length adds.books) (with_books (empty_book e) adds.books) c.0.book epoch over)

-- ---- both ways

pub sum_means : (e : ℕ) (bytes : List ℕ) (total : Book) → AreBytes bytes → (merged e bytes ≡ Ok total) ↔ IsSumOf e bytes total
sum_means e bytes total are = (λ is. go (merged e bytes) (whole e bytes are) is, sum_back e bytes total)
  where
    go : (outcome : Result Book MergeFault) → Whole e bytes outcome → outcome ≡ Ok total → IsSumOf e bytes total
    go outcome (inl (other, sum, is)) here = let same : other ≡ total = cc in subst (IsSumOf e bytes) same sum
    go outcome (inr (inl (number, kind, at, bad, is))) here = absurd cc
    go outcome (inr (inr (inl (number, have, other, is)))) here = absurd cc
    go outcome (inr (inr (inr (much, is)))) here = absurd cc

pub bad_means : (e : ℕ) (bytes : List ℕ) (number : ℕ) (kind : BookKind) (at : ℕ) → AreBytes bytes → (merged e bytes ≡ Err (BadBookFault number kind at)) ↔ HasBadBook e bytes number kind at
bad_means e bytes number kind at are = (λ is. go (merged e bytes) (whole e bytes are) is, bad_back e bytes number kind at)
  where
    go : (outcome : Result Book MergeFault) → Whole e bytes outcome → outcome ≡ Err (BadBookFault number kind at) → HasBadBook e bytes number kind at
    go outcome (inl (other, sum, is)) here = absurd cc
    go outcome (inr (inl (n, k, a, bad, is))) here =
        let same : n ≡ number = cc in
        let same_kind : k ≡ kind = cc in
        let same_at : a ≡ at = cc in
        subst (λ (n : ℕ). HasBadBook e bytes n kind at) same (subst (λ (k : BookKind). HasBadBook e bytes n k at) same_kind (subst (λ (a : ℕ). HasBadBook e bytes n k a) same_at bad))
    go outcome (inr (inr (inl (n, have, other, is)))) here = absurd cc
    go outcome (inr (inr (inr (much, is)))) here = absurd cc

pub epoch_means : (e : ℕ) (bytes : List ℕ) (number have : ℕ) → AreBytes bytes → (merged e bytes ≡ Err (BookEpoch number have)) ↔ HasOtherEpoch e bytes number have
epoch_means e bytes number have are = (λ is. go (merged e bytes) (whole e bytes are) is, epoch_back e bytes number have)
  where
    go : (outcome : Result Book MergeFault) → Whole e bytes outcome → outcome ≡ Err (BookEpoch number have) → HasOtherEpoch e bytes number have
    go outcome (inl (other, sum, is)) here = absurd cc
    go outcome (inr (inl (n, k, a, bad, is))) here = absurd cc
    go outcome (inr (inr (inl (n, h, other, is)))) here =
        let same : n ≡ number = cc in
        let same_have : h ≡ have = cc in
        subst (λ (n : ℕ). HasOtherEpoch e bytes n have) same (subst (λ (h : ℕ). HasOtherEpoch e bytes n h) same_have other)
    go outcome (inr (inr (inr (much, is)))) here = absurd cc

pub much_means : (e : ℕ) (bytes : List ℕ) → AreBytes bytes → (merged e bytes ≡ Err TooMany) ↔ HasTooMuch e bytes
much_means e bytes are = (λ is. go (merged e bytes) (whole e bytes are) is, much_back e bytes)
  where
    go : (outcome : Result Book MergeFault) → Whole e bytes outcome → outcome ≡ Err TooMany → HasTooMuch e bytes
    go outcome (inl (other, sum, is)) here = absurd cc
    go outcome (inr (inl (n, k, a, bad, is))) here = absurd cc
    go outcome (inr (inr (inl (n, h, other, is)))) here = absurd cc
    go outcome (inr (inr (inr (much, is)))) here = much
