-- What keeps a book a book.
use Rattle.std.proofs.Common.{◌≡◌, ℕ, suc, ◌+◌, ◌-◌, ◌^◌, ◌<◌, ◌≤◌, true, false, cond, not, List, [], ◌∷◌, ◌++◌, length, Option, Some, None, refl, sym, ap, ◌∙◌, subst, map, arith, sum}
use Rattle.std.specs.Prelude.{All, unwrap_or, nat_lt, ◌&&◌}
use Rattle.report_frame.specs.declared.limits.TheConstants.{MAX_FRAME_ONE, MAX_FRAME_TWO}
use Rattle.report_frame.specs.Reading.{decoded, decoded_under, begins_as_one}
use Rattle.std.specs.List.{AllByRecursion, slice_get}
use Rattle.std.specs.List.Sorted.{IsStrictlySortedBy}
use Rattle.std.specs.Map.{keys_of, values_of}
use Rattle.std.specs.BTreeMap.{is_at}
use Rattle.std.specs.Ordering.{is_lt}
use Rattle.std.specs.declared.cmp.Ordering.{Ordering}
use Rattle.std.specs.declared.cmp.Ordering.TheVariants.{Less, Equal, Greater}
use Rattle.std.proofs.lemmas.Option.{none-some, same_Some}
use Rattle.std.proofs.lemmas.Bool.{ltb-false}
use Rattle.std.proofs.lemmas.Cmp.{nat_list_cmp_total}
use Rattle.std.proofs.lemmas.List.Sums.{sum_by_push, sum_by-cons}
use Rattle.std.proofs.lemmas.List.Elements.{All-cons, All-nil, All-head, All-tail}
use Rattle.std.proofs.lemmas.Map.Keys.{sorted_tail}
use Rattle.star_io.specs.declared.record.TheConstants.{MAX_RECORDS}
use Rattle.book_file.specs.Book.{Entry, IsBookOf, by_bytes, is_outer, is_outer_frame, count_in}
use Rattle.star_io.specs.declared.record.Record.{Record}
use Rattle.star_io.specs.declared.record.Record.TheVariants.{Whole, TooLong, CutLength, CutRecord}
use Rattle.star_lists.specs.Ascending.{ascending}
use Rattle.std.specs.Str.{bytes_eq}
use Rattle.std.proofs.lemmas.Map.Text.{is_eq-slice_cmp}
use Rattle.std.proofs.lemmas.List.{map-append}
use Rattle.book_file.specs.BookOf.{is_taken, body_of, taken_body, bodies_of, times, entry_of, book_of, one_book, entries_sum}
use Rattle.book_file.specs.Format.{is_above, last_of}
use Rattle.book_file.proofs.Entries.{Rises, found, at_itself, none_later}
use Rattle.book_file.proofs.Sums.{found_behind, sum_last, is_more, rises_sum, Counts, Counts-sum, All-keys_sum}

-- the sum of two is one, where the totals fit
pub is_sum_book : (e d t c u : ℕ) (xs ys zs : List Entry) → IsBookOf e d t xs → IsBookOf e c u ys → zs ≡ entries_sum xs ys → sum (values_of zs) ≡ sum (values_of xs) + sum (values_of ys) → t + u ≤ MAX_RECORDS → IsBookOf e (d + c) (t + u) zs
is_sum_book e d t c u xs ys zs h k is total few =
    let total_is : t + u ≡ d + c + sum (values_of zs) = omega (arith, h.total_is, k.total_is, total) in
    record {
      is_book = record {
        epoch = h.is_book.epoch;
        frames = subst (λ es. All (λ f. is_outer_frame e f ≡ true) (keys_of es)) (sym is) (All-keys_sum (λ f. is_outer_frame e f ≡ true) xs ys h.is_book.frames k.is_book.frames);
        ascending = subst Rises (sym is) (rises_sum xs ys);
        counts = subst Counts (sym is) (Counts-sum xs ys h.is_book.counts k.is_book.counts);
        few = subst (λ n. n ≤ MAX_RECORDS) total_is few;
      };
      total_is = total_is;
    }

-- dropped records alone
pub dropped_book : (e d : ℕ) → e < 2 ^ 32 → d ≤ MAX_RECORDS → IsBookOf e d d []
unfolding IsStrictlySortedBy
dropped_book e d small few =
    let total_is : d ≡ d + 0 = omega arith in
    record {
      is_book = record {
        epoch = small;
        frames = All-nil (λ f. is_outer_frame e f ≡ true);
        ascending = tt;
        counts = All-nil (λ n. 1 ≤ n);
        few = omega (arith, few);
      };
      total_is = total_is;
    }

-- one frame alone
pub frame_book : (e n : ℕ) (f : List ℕ) → e < 2 ^ 32 → is_outer_frame e f ≡ true → 1 ≤ n → n ≤ MAX_RECORDS → IsBookOf e 0 n ((f, n) ∷ [])
unfolding IsStrictlySortedBy
frame_book e n f small good some few =
    let total_is : n ≡ 0 + (0 + n) = omega arith in
    record {
      is_book = record {
        epoch = small;
        frames = All-cons (λ f. is_outer_frame e f ≡ true) f [] good (All-nil (λ f. is_outer_frame e f ≡ true));
        ascending = (tt, tt);
        counts = All-cons (λ n. 1 ≤ n) n [] some (All-nil (λ n. 1 ≤ n));
        few = omega (arith, few);
      };
      total_is = total_is;
    }

-- ---- an entry behind the others

less_of : (r : Ordering) → is_lt r ≡ true → r ≡ Less
less_of Less h = refl
less_of Equal h = absurd (let no : false ≡ true = h in cc)
less_of Greater h = absurd (let no : false ≡ true = h in cc)

-- what is below another is below all above that
pub below_all : (x y : List ℕ) (fs : List (List ℕ)) → by_bytes x y ≡ Less → AllByRecursion (λ f. by_bytes y f ≡ Less) fs → AllByRecursion (λ f. by_bytes x f ≡ Less) fs
below_all x y [] h t = tt
below_all x y (f ∷ fs) h t = (nat_list_cmp_total.trans x y f h t.0, below_all x y fs h t.1)

-- the last of more entries
pub last_later : (x y : Entry) (ys : List Entry) → last_of (x ∷ y ∷ ys) ≡ last_of (y ∷ ys)
last_later x y ys =
    let at : length (x ∷ y ∷ ys) - 1 ≡ suc (length (y ∷ ys) - 1) = omega arith in
    ap (slice_get (x ∷ y ∷ ys)) at

pub rises_last : (es : List Entry) (f : List ℕ) (n : ℕ) → Rises es → is_above (last_of es) f ≡ true → Rises (es ++ (f, n) ∷ [])
unfolding IsStrictlySortedBy
rises_last [] f n rises h = (tt, tt)
rises_last (x ∷ []) f n rises h = ((less_of (by_bytes x.0 f) h, tt), (tt, tt))
rises_last (x ∷ y ∷ ys) f n rises h =
    let later : Rises ((y ∷ ys) ++ (f, n) ∷ []) = rises_last (y ∷ ys) f n rises.1 (ap (λ last. is_above last f) (sym (last_later x y ys)) ∙ h) in
    ((rises.0.0, below_all x.0 y.0 (keys_of (ys ++ (f, n) ∷ [])) rises.0.0 later.0), later)

none_before : (es : List Entry) (f : List ℕ) (n : ℕ) → Rises (es ++ (f, n) ∷ []) → found f es ≡ None
none_before [] f n rises = refl
none_before (x ∷ xs) f n rises =
    elim (is_at (by_bytes f) x.0) as (λ b. is_at (by_bytes f) x.0 ≡ b → cond b (Some x.1) (found f xs) ≡ None) [
      | true ↦ λ h. absurd (none-some n (sym (found_behind f xs ((f, n) ∷ []) (none_later f x (xs ++ (f, n) ∷ []) rises h)) ∙ ap (λ b. cond b (Some n) None) (at_itself f)))
      | false ↦ λ h. none_before xs f n (sorted_tail by_bytes x.0 (keys_of (xs ++ (f, n) ∷ [])) rises)
    ] refl

-- an entry above the last is put behind it
pub put_last : (es zs : List Entry) (f : List ℕ) (n : ℕ) → Rises es → is_above (last_of es) f ≡ true → Rises zs → ((q : List ℕ) → found q zs ≡ cond (is_at (by_bytes f) q) (Some n) (found q es)) → zs ≡ es ++ (f, n) ∷ []
put_last es zs f n rises above up h =
    let order : Rises (es ++ (f, n) ∷ []) = rises_last es f n rises above in
    let count : n ≡ count_in es f + n = omega (arith, none_count (found f es) (none_before es f n order)) in
    is_more es zs f n n up count h ∙ sum_last es f n order
  where
    none_count : (o : Option ℕ) → o ≡ None → unwrap_or o 0 ≡ 0
    none_count o h = ap (λ o. unwrap_or o 0) h

-- a book with one more entry behind the others is one
pub pushed_book : (e d t n : ℕ) (f : List ℕ) (es : List Entry) → IsBookOf e d t es → is_outer_frame e f ≡ true → is_above (last_of es) f ≡ true → 1 ≤ n → t + n ≤ MAX_RECORDS → IsBookOf e d (t + n) (es ++ (f, n) ∷ [])
pushed_book e d t n f es h good above some few =
    let small : n ≤ MAX_RECORDS = omega arith in
    let whole : sum (values_of (es ++ (f, n) ∷ [])) ≡ sum (values_of es) + sum (values_of ((f, n) ∷ [])) =
    ap sum (map-append (λ (x : Entry). x.1) es ((f, n) ∷ [])) ∙ sum_by_push (λ x. x) (values_of es) n ∙ (let one : sum (values_of es) + n ≡ sum (values_of es) + (0 + n) = omega arith in one) in
    let same : d + 0 ≡ d = omega arith in
    subst (λ c. IsBookOf e c (t + n) (es ++ (f, n) ∷ [])) same
    (is_sum_book e d t 0 n es ((f, n) ∷ []) (es ++ (f, n) ∷ []) h (frame_book e n f h.is_book.epoch good some small) (sym (sum_last es f n (rises_last es f n h.is_book.ascending above))) whole few)

-- ---- one record

-- the book of one record is that of its frame, or of none
pub book_of_one : (e : ℕ) (r : Record) → book_of e (r ∷ []) ≡ one_book e (taken_body e r)
unfolding book_of bodies_of
book_of_one e r =
    elim (is_taken e r) as (λ b. record {
      epoch = e;
      dropped = length (cond (not b) (r ∷ []) []);
      entries = map (entry_of (map body_of (cond b (r ∷ []) []))) (ascending by_bytes (map body_of (cond b (r ∷ []) [])));
    } ≡ one_book e (cond b (Some (body_of r)) None)) [
      | true ↦ (λ i. record { epoch = e; dropped = 0; entries = (body_of r, once i) ∷ [] })
      | false ↦ refl
    ]
  where
    itself : bytes_eq (body_of r) (body_of r) ≡ true
    itself = sym (is_eq-slice_cmp (body_of r) (body_of r)) ∙ at_itself (body_of r)

    once : times (body_of r ∷ []) (body_of r) ≡ 1
    once = ap (λ b. length (cond b (body_of r ∷ []) [])) itself

pub taken_is_outer : (e : ℕ) (r : Record) (f : List ℕ) → taken_body e r ≡ Some f → is_outer_frame e f ≡ true
taken_is_outer e (Whole body) f h =
    elim (is_outer_frame e body) as (λ b. is_outer_frame e body ≡ b → cond b (Some body) None ≡ Some f → is_outer_frame e f ≡ true) [
      | true ↦ λ good is. subst (λ x. is_outer_frame e x ≡ true) (same_Some body f is) good
      | false ↦ λ bad is. absurd (none-some f is)
    ] refl h
taken_is_outer e (TooLong said) f h = absurd (none-some f h)
taken_is_outer e (CutLength have) f h = absurd (none-some f h)
taken_is_outer e (CutRecord said have) f h = absurd (none-some f h)

-- ---- sizes

-- there are no more entries than records
pub few_entries : (es : List Entry) → Counts es → length es ≤ sum (values_of es)
few_entries [] counts = omega arith
few_entries (x ∷ xs) counts =
    let rest = few_entries xs (All-tail (λ n. 1 ≤ n) x.1 (values_of xs) counts) in
    let one : 1 ≤ x.1 = All-head (λ n. 1 ≤ n) x.1 (values_of xs) counts in
    omega (arith, rest, one, sum_by-cons (λ n. n) x.1 (values_of xs))

-- a good frame is not too long
pub short_frame : (e : ℕ) (f : List ℕ) → is_outer_frame e f ≡ true → length f ≤ MAX_FRAME_TWO
unfolding decoded
short_frame e f h =
    elim (nat_lt MAX_FRAME_TWO (length f)) as (λ b. nat_lt MAX_FRAME_TWO (length f) ≡ b → is_outer e (decoded_under (cond b (Some MAX_FRAME_TWO) (cond (nat_lt MAX_FRAME_ONE (length f) && begins_as_one f) (Some MAX_FRAME_ONE) None)) f) ≡ true → length f ≤ MAX_FRAME_TWO) [
      | true ↦ λ long good. absurd (let no : false ≡ true = good in cc)
      | false ↦ λ short good. ltb-false MAX_FRAME_TWO (length f) short
    ] refl h
