-- The sum of books, reading after reading.
use Rattle.std.proofs.Common.{◌≡◌, ℕ, ◌+◌, ◌-◌, ◌*◌, ◌<◌, ◌≤◌, List, [], ◌∷◌, length, drop, Bool, true, false, cond, not, inl, inr, Option, None, Some, Result, Ok, Err, refl, sym, ap, ◌∙◌, subst, arith}
use Rattle.std.specs.Prelude.{⊤, ◌==◌, nat_lt, IfOk, IfErr}
use Rattle.std.proofs.lemmas.Bool.{cases_lt, lt-ltb, le-ltb}
use Rattle.std.proofs.lemmas.List.{length-drop, drop-drop, nil_from_length}
use Rattle.star_io.specs.declared.record.TheConstants.{MAX_RECORDS}
use Rattle.book_file.specs.Book.{Book, total_of}
use Rattle.book_file.specs.BookOf.{sum_of}
use Rattle.book_file.specs.Reading.{read_of, TakesBook}
use Rattle.book_file.specs.declared.book_error.BadBook.{BadBook}
use Rattle.book_file.specs.declared.book_error.ReadBook.{ReadBook}
use Rattle.book_file.specs.declared.book_error.NextBookError.{NextBookError}
use Rattle.book_file.specs.declared.book_error.NextBookError.TheVariants as next
use Rattle.book_merge.specs.declared.fault.MergeError.{MergeError}
use Rattle.book_merge.specs.declared.fault.MergeError.TheVariants.{Fault}
use Rattle.book_merge.specs.declared.fault.MergeFault.{MergeFault}
use Rattle.book_merge.specs.declared.fault.MergeFault.TheVariants.{TooMany, BookEpoch}
use Rattle.book_merge.specs.declared.limits.TheConstants.{MAX_BOOKS_BYTES, MAX_BOOKS}
use Rattle.book_merge.specs.Merging.{Reading, used_by, behind, readings, sum_with, fault_with, with_readings, empty_book, merged, end_of, merge_rest, IsSum, HasFault, IsAnswer}
use Rattle.book_merge.proofs.Readings.{used-least, used-most, readings-nil, readings-more}

-- So many of the bytes were taken, which are so many books, with this sum so far. The rest of them gives what is looked for.
pub record Goes (e number room : ℕ) (so_far : Result Book MergeFault) (bytes left : List ℕ) : Type 0 where
  pub taken : ℕ
  pub within : taken + room ≡ MAX_BOOKS_BYTES
  pub rest : left ≡ drop taken bytes
  pub whole : taken + length left ≡ length bytes
  pub many : 21 * number ≤ taken
  pub sum : with_readings 0 (Ok (empty_book e)) (readings bytes) ≡ with_readings number so_far (readings left)
  pub ends : end_of 0 (readings bytes) ≡ end_of taken (readings left)

-- the same where the source tells its bytes
abbrev pub HasGone : (e number room : ℕ) → Result Book MergeFault → (old left : Option (List ℕ)) → Type 0
HasGone e number room so_far None left = ⊤
HasGone e number room so_far (Some bytes) None = ⊥
HasGone e number room so_far (Some bytes) (Some left) = Goes e number room so_far bytes left

-- what a turn of the reader takes
abbrev pub Turn : (middle new : Option (List ℕ)) → Result (Option ReadBook) NextBookError → Type 0
Turn middle new answer = (bytes : List ℕ) → middle ≡ Some bytes → TakesBook bytes new answer

-- nothing was taken yet
pub begun : (e : ℕ) (left : Option (List ℕ)) → HasGone e 0 MAX_BOOKS_BYTES (Ok (empty_book e)) left left
begun e None = tt
begun e (Some bytes) = record { taken = 0; within = omega arith; rest = refl; whole = omega arith; many = omega arith; sum = refl; ends = refl }

-- ---- one reading

-- what a reading shows of bytes of which so many were taken
record Reads (e number room : ℕ) (so_far : Result Book MergeFault) (bytes left : List ℕ) (reading : Reading) (goes : Goes e number room so_far bytes left) : Type 0 where
  fits : used_by reading ≤ length left
  rest : drop (used_by reading) left ≡ drop (goes.taken + used_by reading) bytes
  sum : with_readings 0 (Ok (empty_book e)) (readings bytes) ≡ with_readings number so_far (reading ∷ readings (behind left reading))
  ends : end_of 0 (readings bytes) ≡ end_of goes.taken (reading ∷ readings (behind left reading))

reads : (e number room : ℕ) (so_far : Result Book MergeFault) (bytes left : List ℕ) (reading : Reading) (goes : Goes e number room so_far bytes left)
    → 0 < length left → read_of left ≡ reading → Reads e number room so_far bytes left reading goes
reads e number room so_far bytes left reading goes some is = record {
  fits = subst (λ (r : Reading). used_by r ≤ length left) is (used-most left);
  rest = ap (drop (used_by reading)) goes.rest ∙ drop-drop (used_by reading) goes.taken bytes;
  sum = goes.sum ∙ ap (with_readings number so_far) (readings-more left reading some is);
  ends = goes.ends ∙ ap (end_of goes.taken) (readings-more left reading some is);
}

-- a book isn't empty
pub not_empty : (left : List ℕ) (found : ReadBook) → read_of left ≡ Ok found → 0 < length left
not_empty left found is = omega (arith, used-least left found is, subst (λ (r : Reading). used_by r ≤ length left) is (used-most left))

-- a book more was read, and there is room for it
pub one_more : (e number room : ℕ) (so_far : Result Book MergeFault) (found : ReadBook) (old middle new : Option (List ℕ)) → Turn middle new (Ok (Some found)) → found.used ≤ room
    → HasGone e number room so_far old middle → HasGone e (number + 1) (room - found.used) (sum_with number so_far found.book) old new
one_more e number room so_far found None middle new turn fits gone = tt
one_more e number room so_far found (Some bytes) None new turn fits gone = absurd gone
one_more e number room so_far found (Some bytes) (Some left) None turn fits gone = absurd (let none = (turn left refl).1 in cc none)
one_more e number room so_far found (Some bytes) (Some left) (Some rest) turn fits gone =
    let took = turn left refl in
    let is : rest ≡ drop found.used left = let same = took.1 in cc same in
    let read = reads e number room so_far bytes left (Ok found) gone (not_empty left found took.0) took.0 in
    record {
      taken = gone.taken + found.used;
      within = omega (arith, gone.within);
      rest = is ∙ read.rest;
      whole = omega (arith, gone.whole, read.fits, ap length is, length-drop found.used left);
      many = omega (arith, gone.many, used-least left found took.0);
      sum = read.sum ∙ ap (λ (l : List ℕ). with_readings (number + 1) (sum_with number so_far found.book) (readings l)) (sym is);
      ends = read.ends
          ∙ ap (λ (b : Bool). cond b (gone.taken + found.used) (end_of (gone.taken + found.used) (readings (drop found.used left)))) (le-ltb MAX_BOOKS_BYTES (gone.taken + found.used) (omega (arith, gone.within)))
          ∙ ap (λ (l : List ℕ). end_of (gone.taken + found.used) (readings l)) (sym is);
    }

-- ---- the end

pub few_merged : (e : ℕ) (bytes : List ℕ) → length bytes ≤ MAX_BOOKS_BYTES → merged e bytes ≡ with_readings 0 (Ok (empty_book e)) (readings bytes)
unfolding merged
few_merged e bytes few = rw (le-ltb MAX_BOOKS_BYTES (length bytes) few) refl

pub many_merged : (e : ℕ) (bytes : List ℕ) → MAX_BOOKS_BYTES < length bytes → merged e bytes ≡ Err TooMany
unfolding merged
many_merged e bytes many = rw (lt-ltb MAX_BOOKS_BYTES (length bytes) many) refl

rest_at : (bytes : List ℕ) (n : ℕ) → end_of 0 (readings bytes) ≡ n → merge_rest bytes ≡ drop n bytes
unfolding merge_rest
rest_at bytes n is = ap (λ (n : ℕ). drop n bytes) is

none_left : (bytes : List ℕ) (n : ℕ) → length bytes ≤ n → drop n bytes ≡ []
none_left bytes n few = nil_from_length (drop n bytes) (omega (arith, length-drop n bytes))

-- what is known at the end of bytes that are not too many
pub record Ends (e : ℕ) (outcome : Result Book MergeFault) (bytes : List ℕ) (new : Option (List ℕ)) : Type 0 where
  pub merged_is : merged e bytes ≡ outcome
  pub nothing : new ≡ Some []
  pub rest_is : merge_rest bytes ≡ []

abbrev pub AtEnd : ℕ → Result Book MergeFault → (old new : Option (List ℕ)) → Type 0
AtEnd e outcome old new = (bytes : List ℕ) → old ≡ Some bytes → Ends e outcome bytes new

-- nothing was left behind the last book
pub all_read : (e number room : ℕ) (so_far : Result Book MergeFault) (old middle new : Option (List ℕ)) → Turn middle new (Ok None) → HasGone e number room so_far old middle → AtEnd e so_far old new
all_read e number room so_far None middle new turn gone bytes told = absurd cc
all_read e number room so_far (Some from) None new turn gone bytes told = absurd gone
all_read e number room so_far (Some from) (Some left) new turn gone bytes told =
    let took = turn left refl in
    let same : from ≡ bytes = let is = told in cc is in
    let few : length from ≤ MAX_BOOKS_BYTES = omega (arith, gone.within, gone.whole, ap length took.0) in
    let none : readings left ≡ [] = ap readings took.0 ∙ readings-nil in
    subst (λ (b : List ℕ). Ends e so_far b new) same (record {
      merged_is = few_merged e from few ∙ gone.sum ∙ ap (with_readings number so_far) none;
      nothing = took.1;
      rest_is = rest_at from (MAX_BOOKS_BYTES + 1) (gone.ends ∙ ap (end_of gone.taken) none) ∙ none_left from (MAX_BOOKS_BYTES + 1) (omega (arith, few));
    })

-- a fault of the bytes, and no more was taken than that needs
abbrev pub IsFault : ℕ → (old new : Option (List ℕ)) → MergeFault → Type 0
IsFault e old new fault = HasFault e old new (Fault fault)

-- a reading went on behind the limit
past : (e number room : ℕ) (so_far : Result Book MergeFault) (bytes left : List ℕ) (reading : Reading) (new : Option (List ℕ)) (goes : Goes e number room so_far bytes left)
    → 0 < length left → read_of left ≡ reading → room < used_by reading → new ≡ Some (drop (used_by reading) left)
    → (merged e bytes ≡ Err TooMany) × (new ≡ Some (merge_rest bytes))
past e number room so_far bytes left reading new goes some is over taken =
    let read = reads e number room so_far bytes left reading goes some is in
    let many : MAX_BOOKS_BYTES < length bytes = omega (arith, goes.within, goes.whole, read.fits, over) in
    let ends : end_of 0 (readings bytes) ≡ goes.taken + used_by reading =
    read.ends ∙ ap (λ (b : Bool). cond b (goes.taken + used_by reading) (end_of (goes.taken + used_by reading) (readings (behind left reading))))
    (lt-ltb MAX_BOOKS_BYTES (goes.taken + used_by reading) (omega (arith, goes.within, over))) in
    (many_merged e bytes many, taken ∙ ap (λ (l : List ℕ). Some l) (read.rest ∙ sym (rest_at bytes (goes.taken + used_by reading) ends)))

pub book_past : (e number room : ℕ) (so_far : Result Book MergeFault) (found : ReadBook) (old middle new : Option (List ℕ)) → Turn middle new (Ok (Some found)) → room < found.used
    → HasGone e number room so_far old middle → IsFault e old new TooMany
book_past e number room so_far found None middle new turn over gone bytes told = absurd cc
book_past e number room so_far found (Some from) None new turn over gone bytes told = absurd gone
book_past e number room so_far found (Some from) (Some left) new turn over gone bytes told =
    let took = turn left refl in
    let same : from ≡ bytes = let is = told in cc is in
    subst (λ (b : List ℕ). (merged e b ≡ Err TooMany) × (new ≡ Some (merge_rest b))) same
    (past e number room so_far from left (Ok found) new gone (not_empty left found took.0) took.0 over took.1)

pub bad_past : (e number room : ℕ) (so_far : Result Book MergeFault) (bad : BadBook) (old middle new : Option (List ℕ)) → Turn middle new (Err (next.Bad bad)) → room < bad.used
    → HasGone e number room so_far old middle → IsFault e old new TooMany
bad_past e number room so_far bad None middle new turn over gone bytes told = absurd cc
bad_past e number room so_far bad (Some from) None new turn over gone bytes told = absurd gone
bad_past e number room so_far bad (Some from) (Some left) new turn over gone bytes told =
    let took = turn left refl in
    let same : from ≡ bytes = let is = told in cc is in
    subst (λ (b : List ℕ). (merged e b ≡ Err TooMany) × (new ≡ Some (merge_rest b))) same
    (past e number room so_far from left (Err bad) new gone took.0 took.1 over took.2)

-- ---- reading on behind a bad book

-- where a bad book ends within the limit, what is left after it are bytes of which one may be taken behind the limit
bad_ends : (e number room : ℕ) (so_far : Result Book MergeFault) (bytes left : List ℕ) (bad : BadBook) (goes : Goes e number room so_far bytes left)
    → 0 < length left → read_of left ≡ Err bad → bad.used ≤ room → end_of 0 (readings bytes) ≡ MAX_BOOKS_BYTES + 1
bad_ends e number room so_far bytes left bad goes some is fits =
    (reads e number room so_far bytes left (Err bad) goes some is).ends
    ∙ ap (λ (b : Bool). cond b (goes.taken + bad.used) (end_of (goes.taken + bad.used) (readings []))) (le-ltb MAX_BOOKS_BYTES (goes.taken + bad.used) (omega (arith, goes.within, fits)))
    ∙ ap (end_of (goes.taken + bad.used)) readings-nil

-- the rest isn't too long
abbrev pub EndsAfter : (room : ℕ) → (middle new : Option (List ℕ)) → Type 0
EndsAfter room middle new = (bytes : List ℕ) → middle ≡ Some bytes → (length bytes ≤ room) × (new ≡ Some [])

abbrev pub GoesOn : (room : ℕ) → (middle new : Option (List ℕ)) → Type 0
GoesOn room middle new = (bytes : List ℕ) → middle ≡ Some bytes → (room < length bytes) × (new ≡ Some (drop (room + 1) bytes))

pub bad_told : (e number room : ℕ) (so_far : Result Book MergeFault) (bad : BadBook) (old middle after new : Option (List ℕ)) → Turn middle after (Err (next.Bad bad)) → bad.used ≤ room
    → EndsAfter (room - bad.used) after new → HasGone e number room so_far old middle → IsFault e old new (fault_with number so_far bad)
bad_told e number room so_far bad None middle after new turn fits ended gone bytes told = absurd cc
bad_told e number room so_far bad (Some from) None after new turn fits ended gone bytes told = absurd gone
bad_told e number room so_far bad (Some from) (Some left) after new turn fits ended gone bytes told =
    let took = turn left refl in
    let same : from ≡ bytes = let is = told in cc is in
    let read = reads e number room so_far from left (Err bad) gone took.0 took.1 in
    let rest = ended (drop bad.used left) took.2 in
    let few : length from ≤ MAX_BOOKS_BYTES = omega (arith, gone.within, gone.whole, read.fits, rest.0, length-drop bad.used left) in
    subst (λ (b : List ℕ). (merged e b ≡ Err (fault_with number so_far bad)) × (new ≡ Some (merge_rest b))) same (
      few_merged e from few ∙ read.sum ∙ ap (with_readings (number + 1) (Err (fault_with number so_far bad))) readings-nil,
      rest.1 ∙ ap (λ (l : List ℕ). Some l) (sym (rest_at from (MAX_BOOKS_BYTES + 1) (bad_ends e number room so_far from left bad gone took.0 took.1 fits) ∙ none_left from (MAX_BOOKS_BYTES + 1) (omega (arith, few)))),
    )

pub bad_long : (e number room : ℕ) (so_far : Result Book MergeFault) (bad : BadBook) (old middle after new : Option (List ℕ)) → Turn middle after (Err (next.Bad bad)) → bad.used ≤ room
    → GoesOn (room - bad.used) after new → HasGone e number room so_far old middle → IsFault e old new TooMany
bad_long e number room so_far bad None middle after new turn fits more gone bytes told = absurd cc
bad_long e number room so_far bad (Some from) None after new turn fits more gone bytes told = absurd gone
bad_long e number room so_far bad (Some from) (Some left) after new turn fits more gone bytes told =
    let took = turn left refl in
    let same : from ≡ bytes = let is = told in cc is in
    let read = reads e number room so_far from left (Err bad) gone took.0 took.1 in
    let rest = more (drop bad.used left) took.2 in
    let many : MAX_BOOKS_BYTES < length from = omega (arith, gone.within, gone.whole, read.fits, rest.0, length-drop bad.used left) in
    let place : gone.taken + bad.used + (room - bad.used + 1) ≡ MAX_BOOKS_BYTES + 1 = omega (arith, gone.within, fits) in
    let rest_is : drop (room - bad.used + 1) (drop bad.used left) ≡ drop (MAX_BOOKS_BYTES + 1) from =
    ap (drop (room - bad.used + 1)) read.rest ∙ drop-drop (room - bad.used + 1) (gone.taken + bad.used) from
    ∙ ap (λ (n : ℕ). drop n from) place in
    subst (λ (b : List ℕ). (merged e b ≡ Err TooMany) × (new ≡ Some (merge_rest b))) same (
      many_merged e from many,
      rest.1 ∙ ap (λ (l : List ℕ). Some l) (rest_is ∙ sym (rest_at from (MAX_BOOKS_BYTES + 1) (bad_ends e number room so_far from left bad gone took.0 took.1 fits))),
    )

-- what is told where the input was read to its end, or to a byte behind the limit
pub bad_answered : (e number room : ℕ) (so_far : Result Book MergeFault) (bad : BadBook) (old middle after new : Option (List ℕ)) (answer : MergeFault) → Turn middle after (Err (next.Bad bad)) → bad.used ≤ room
    → ((rest : List ℕ) → after ≡ Some rest → length rest ≤ room - bad.used → (answer ≡ fault_with number so_far bad) × (new ≡ Some []))
    → ((rest : List ℕ) → after ≡ Some rest → room - bad.used < length rest → (answer ≡ TooMany) × (new ≡ Some (drop (room - bad.used + 1) rest)))
    → HasGone e number room so_far old middle → IsFault e old new answer
bad_answered e number room so_far bad None middle after new answer turn fits end more gone = λ bytes told. absurd cc
bad_answered e number room so_far bad (Some from) None after new answer turn fits end more gone = λ bytes told. absurd gone
bad_answered e number room so_far bad (Some from) (Some left) after new answer turn fits end more gone =
    let behind : List ℕ = drop bad.used left in
    let is : after ≡ Some behind = (turn left refl).2 in
    let same : (rest : List ℕ) → after ≡ Some rest → behind ≡ rest = λ rest here. let both = sym is ∙ here in cc both in
    elim (cases_lt (room - bad.used) (length behind)) [
      | inl many ↦
          let told = more behind is many in
          subst (IsFault e (Some from) new) (sym told.0)
          (bad_long e number room so_far bad (Some from) (Some left) after new turn fits
          (λ rest here. subst (λ (r : List ℕ). (room - bad.used < length r) × (new ≡ Some (drop (room - bad.used + 1) r))) (same rest here) (many, told.1)) gone)
      | inr few ↦
          let told = end behind is few in
          subst (IsFault e (Some from) new) (sym told.0)
          (bad_told e number room so_far bad (Some from) (Some left) after new turn fits
          (λ rest here. subst (λ (r : List ℕ). (length r ≤ room - bad.used) × (new ≡ Some [])) (same rest here) (few, told.1)) gone)
    ]

-- so many books have too many bytes
pub too_many_books : (e room : ℕ) (so_far : Result Book MergeFault) (old left : Option (List ℕ)) → HasGone e MAX_BOOKS room so_far old left → IsFault e old left TooMany
too_many_books e room so_far None left gone bytes told = absurd cc
too_many_books e room so_far (Some from) None gone bytes told = absurd gone
too_many_books e room so_far (Some from) (Some left) gone bytes told = absurd (omega (arith, gone.within, gone.many))

-- ---- what is answered

pub sum_told : (e : ℕ) (so_far : Result Book MergeFault) (answer : Result Book MergeError) (old new : Option (List ℕ)) → AtEnd e so_far old new → IsAnswer so_far answer → IfOk answer (IsSum e old new)
sum_told e (Ok sum) answer old new end is = subst (λ (r : Result Book MergeError). IfOk r (IsSum e old new)) (sym is) (λ bytes told. let at = end bytes told in (at.merged_is, at.nothing))
sum_told e (Err fault) answer old new end is = subst (λ (r : Result Book MergeError). IfOk r (IsSum e old new)) (sym is) tt

pub fault_told : (e : ℕ) (so_far : Result Book MergeFault) (answer : Result Book MergeError) (old new : Option (List ℕ)) → AtEnd e so_far old new → IsAnswer so_far answer → IfErr answer (HasFault e old new)
fault_told e (Ok sum) answer old new end is = subst (λ (r : Result Book MergeError). IfErr r (HasFault e old new)) (sym is) tt
fault_told e (Err fault) answer old new end is =
    subst (λ (r : Result Book MergeError). IfErr r (HasFault e old new)) (sym is)
    (λ bytes told. let at = end bytes told in (at.merged_is, at.nothing ∙ ap (λ (l : List ℕ). Some l) (sym at.rest_is)))

-- the sum is of the epoch
abbrev pub OfEpoch : ℕ → Result Book MergeFault → Type 0
OfEpoch e so_far = IfOk so_far (λ sum. sum.epoch ≡ e)

pub epoch_kept : (e number : ℕ) (so_far : Result Book MergeFault) (book : Book) → OfEpoch e so_far → OfEpoch e (sum_with number so_far book)
unfolding sum_of
epoch_kept e number (Err fault) book is = tt
epoch_kept e number (Ok sum) book is =
    elim (not (book.epoch == sum.epoch)) as (λ b. OfEpoch e (cond b (Err (BookEpoch number book.epoch)) (cond (nat_lt MAX_RECORDS (total_of sum + total_of book)) (Err TooMany) (Ok (sum_of sum book))))) [
      | true ↦ tt
      | false ↦ elim (nat_lt MAX_RECORDS (total_of sum + total_of book)) as (λ b. OfEpoch e (cond b (Err TooMany) (Ok (sum_of sum book)))) [ true ↦ tt | false ↦ is ]
    ]

pub epoch_told : (e : ℕ) (so_far : Result Book MergeFault) (answer : Result Book MergeError) → OfEpoch e so_far → IsAnswer so_far answer → IfOk answer (λ sum. sum.epoch ≡ e)
epoch_told e (Ok sum) answer of_epoch is = subst (λ (r : Result Book MergeError). IfOk r (λ sum. sum.epoch ≡ e)) (sym is) of_epoch
epoch_told e (Err fault) answer of_epoch is = subst (λ (r : Result Book MergeError). IfOk r (λ sum. sum.epoch ≡ e)) (sym is) tt
