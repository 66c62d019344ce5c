-- The book of a list of records counts each of them, and is a book.
use Rattle.std.proofs.Common.{◌≡◌, ℕ, suc, ◌+◌, ◌^◌, ◌<◌, ◌≤◌, Bool, true, false, cond, not, ◌||◌, List, [], ◌∷◌, length, Some, None, refl, sym, ap, ◌∙◌, subst, map, filter, arith, sum}
use Rattle.std.specs.Str.{bytes_eq}
use Rattle.std.specs.List.{AllByRecursion}
use Rattle.std.specs.List.Sorted.{IsStrictlySortedBy}
use Rattle.std.specs.Map.{values_of}
use Rattle.std.specs.BTreeMap.{is_at}
use Rattle.std.specs.Ordering.{is_eq, ordering_reverse}
use Rattle.std.specs.declared.cmp.Ordering.TheVariants.{Less, Equal, Greater}
use Rattle.std.proofs.lemmas.Cmp.{nat_list_cmp_total}
use Rattle.std.proofs.lemmas.List.{length-map}
use Rattle.std.proofs.lemmas.List.Sums.{sum_by-cons}
use Rattle.std.proofs.lemmas.Map.Lookups.{exact_bytes}
use Rattle.std.proofs.lemmas.Map.Text.{is_eq-slice_cmp}
use Rattle.star_io.specs.declared.record.Record.{Record}
use Rattle.star_io.specs.declared.record.TheConstants.{MAX_RECORDS}
use Rattle.star_lists.specs.Ascending.{by_order, put, ascending}
use Rattle.star_lists.proofs.Ascending.{rising_ascending}
use Rattle.book_file.specs.Book.{Book, IsBook, IsBookOf, by_bytes, total_of}
use Rattle.book_file.specs.BookOf.{is_taken, body_of, taken_body, bodies_of, times, book_of, one_book, sum_of}
use Rattle.book_file.proofs.Entries.{has, at_itself, has_ascending}
use Rattle.book_file.proofs.BookLaws.{entries_of, none_times, book_sum}
use Rattle.book_file.proofs.Books.{below_all, is_sum_book, dropped_book, frame_book, book_of_one, taken_is_outer}

-- ---- how many records a book counts

sum-cons : (n : ℕ) (ns : List ℕ) → sum (n ∷ ns) ≡ n + sum ns
sum-cons n ns = sum_by-cons (λ x. x) n ns

nowhere : (f : List ℕ) (fs : List (List ℕ)) → AllByRecursion (λ q. by_bytes f q ≡ Less) fs → has f fs ≡ false
nowhere f [] up = refl
nowhere f (q ∷ fs) up = λ i. ap is_eq up.0 i || nowhere f fs up.1 i

module _ (old new : List ℕ → ℕ) (f : List ℕ) (once : new f ≡ old f + 1) (apart : (q : List ℕ) → is_at (by_bytes q) f ≡ false → new q ≡ old q) where
  not_at : (q : List ℕ) → by_bytes f q ≡ Less → is_at (by_bytes q) f ≡ false
  not_at q less = ap is_eq (nat_list_cmp_total.antisymm q f ∙ ap ordering_reverse less)

  -- frames above f count as before
  above_same : (fs : List (List ℕ)) → AllByRecursion (λ q. by_bytes f q ≡ Less) fs → map new fs ≡ map old fs
  above_same [] up = refl
  above_same (q ∷ fs) up = λ i. apart q (not_at q up.0) i ∷ above_same fs up.1 i

  -- where f counts once more, so do all
  sum_put : (fs : List (List ℕ)) → IsStrictlySortedBy by_bytes fs → (has f fs ≡ false → old f ≡ 0) → sum (map new (put by_bytes f fs)) ≡ sum (map old fs) + 1
  unfolding IsStrictlySortedBy
  sum_put [] up none = omega (arith, sum-cons (new f) [], once, none refl)
  sum_put (y ∷ ys) up none =
      elim (by_bytes f y) as (λ r. by_bytes f y ≡ r → sum (map new (by_order r (f ∷ y ∷ ys) (y ∷ ys) (y ∷ put by_bytes f ys))) ≡ sum (map old (y ∷ ys)) + 1) [
        | Less ↦ λ less.
            let up_all : AllByRecursion (λ q. by_bytes f q ≡ Less) (y ∷ ys) = (less, below_all f y ys less up.0) in
            omega (arith, sum-cons (new f) (map new (y ∷ ys)), ap sum (above_same (y ∷ ys) up_all), once, none (nowhere f (y ∷ ys) up_all))
        | Equal ↦ λ tie.
            let same : f ≡ y = exact_bytes f y tie in
            let here : new y ≡ old y + 1 = subst (λ q. new q ≡ old q + 1) same once in
            let rest : map new ys ≡ map old ys = above_same ys (subst (λ x. AllByRecursion (λ q. by_bytes x q ≡ Less) ys) (sym same) up.0) in
            omega (arith, sum-cons (new y) (map new ys), sum-cons (old y) (map old ys), ap sum rest, here)
        | Greater ↦ λ greater.
            let less : is_at (by_bytes y) f ≡ false = ap is_eq (nat_list_cmp_total.antisymm y f ∙ ap ordering_reverse greater) in
            let rest = sum_put ys up.1 (λ no. none (λ i. ap is_eq greater i || no i)) in
            omega (arith, sum-cons (new y) (map new (put by_bytes f ys)), sum-cons (old y) (map old ys), apart y less, rest)
      ] refl

values_made : (g : List ℕ → ℕ) (fs : List (List ℕ)) → values_of (map (λ f. (f, g f)) fs) ≡ map g fs
values_made g [] = refl
values_made g (f ∷ fs) = ap (λ l. g f ∷ l) (values_made g fs)

-- the entries of bodies count each of them
bodies_total : (bodies : List (List ℕ)) → sum (values_of (entries_of bodies)) ≡ length bodies
bodies_total [] = refl
bodies_total (b ∷ bodies) =
    let others = filter (bytes_eq b) bodies in
    let itself : bytes_eq b b ≡ true = sym (is_eq-slice_cmp b b) ∙ at_itself b in
    let more : length (cond (bytes_eq b b) (b ∷ others) others) ≡ suc (length others) = ap (λ t. length (cond t (b ∷ others) others)) itself in
    let once : times (b ∷ bodies) b ≡ times bodies b + 1 = omega (arith, more) in
    let apart : (q : List ℕ) → is_at (by_bytes q) b ≡ false → times (b ∷ bodies) q ≡ times bodies q = λ q no.
    ap (λ t. length (cond t (b ∷ filter (bytes_eq q) bodies) (filter (bytes_eq q) bodies))) (sym (is_eq-slice_cmp q b) ∙ no) in
    let all = sum_put (times bodies) (times (b ∷ bodies)) b once apart (ascending by_bytes bodies) (rising_ascending by_bytes nat_list_cmp_total bodies) (λ no. none_times bodies b (sym (has_ascending b bodies) ∙ no)) in
    omega (arith, ap sum (values_made (times (b ∷ bodies)) (ascending by_bytes (b ∷ bodies))), all, ap sum (values_made (times bodies) (ascending by_bytes bodies)), bodies_total bodies)

both_parts : {X : Type 0} (p : X → Bool) (xs : List X) → length (filter (λ x. not (p x)) xs) + length (filter p xs) ≡ length xs
both_parts p [] = refl
both_parts p (x ∷ xs) =
    let rest = both_parts p xs in
    elim (p x) as (λ b. length (cond (not b) (x ∷ filter (λ x. not (p x)) xs) (filter (λ x. not (p x)) xs)) + length (cond b (x ∷ filter p xs) (filter p xs)) ≡ suc (length xs)) [
      | true ↦ omega (arith, rest)
      | false ↦ omega (arith, rest)
    ]

-- the book of records counts each of them
pub record_total : (e : ℕ) (records : List Record) → total_of (book_of e records) ≡ length records
unfolding book_of bodies_of
record_total e records =
    let taken = filter (is_taken e) records in
    omega (arith, bodies_total (map body_of taken), length-map taken body_of, both_parts (is_taken e) records)

-- ---- it is a book

one_is : (e : ℕ) (r : Record) → e < 2 ^ 32 → let one = book_of e (r ∷ []) in IsBookOf e one.dropped 1 one.entries
one_is e r small =
    subst (λ (b : Book). IsBookOf e b.dropped 1 b.entries) (sym (book_of_one e r))
    (elim (taken_body e r) as (λ o. taken_body e r ≡ o → let one = one_book e o in IsBookOf e one.dropped 1 one.entries) [
      | None ↦ λ is. dropped_book e 1 small (omega arith)
      | Some f ↦ λ is. frame_book e 1 f small (taken_is_outer e r f is) (omega arith) (omega arith)
    ] refl)

all_are : (e : ℕ) (records : List Record) → e < 2 ^ 32 → length records ≤ MAX_RECORDS → let all = book_of e records in IsBookOf e all.dropped (length records) all.entries
unfolding book_of bodies_of sum_of
all_are e [] small few = dropped_book e 0 small (omega arith)
all_are e (r ∷ records) small few =
    let one = book_of e (r ∷ []) in
    let rest = book_of e records in
    let all = book_of e (r ∷ records) in
    let is : sum_of one rest ≡ all = book_sum e (r ∷ []) records in
    let counts : sum (values_of all.entries) ≡ sum (values_of one.entries) + sum (values_of rest.entries) =
    omega (arith, record_total e (r ∷ records), record_total e (r ∷ []), record_total e records, ap (λ (b : Book). b.dropped) is) in
    let book = is_sum_book e one.dropped 1 rest.dropped (length records) one.entries rest.entries all.entries (one_is e r small) (all_are e records small (omega (arith, few))) (ap (λ (b : Book). b.entries) (sym is)) counts (omega (arith, few)) in
    let number : 1 + length records ≡ suc (length records) = omega arith in
    subst (λ n. IsBookOf e all.dropped n all.entries) number (subst (λ d. IsBookOf e d (1 + length records) all.entries) (ap (λ (b : Book). b.dropped) is) book)

-- the book of records, where there are no more of them than a book may count
pub record_book : (e : ℕ) (records : List Record) → e < 2 ^ 32 → length records ≤ MAX_RECORDS → IsBook (book_of e records)
unfolding book_of bodies_of
record_book e records small few = (all_are e records small few).is_book
