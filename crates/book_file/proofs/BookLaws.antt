-- The sum of two books is the book of both lists of records.
use Rattle.std.proofs.Common.{◌≡◌, ℕ, ◌+◌, Bool, true, false, cond, not, ◌||◌, List, [], ◌∷◌, ◌++◌, Option, Some, None, refl, sym, ap, ap₂, ◌∙◌, map, filter, length, arith, length-append}
use Rattle.std.specs.Str.{bytes_eq}
use Rattle.std.specs.BTreeMap.{is_at}
use Rattle.std.proofs.lemmas.Map.Text.{is_eq-slice_cmp}
use Rattle.std.proofs.lemmas.List.{map-append}
use Rattle.std.proofs.lemmas.List.Elements.{filter-append}
use Rattle.star_io.specs.declared.record.Record.{Record}
use Rattle.star_lists.specs.Ascending.{ascending}
use Rattle.book_file.specs.Book.{Entry, Book, by_bytes}
use Rattle.book_file.specs.BookOf.{is_taken, body_of, bodies_of, times, entry_of, book_of, entries_sum, sum_of}
use Rattle.book_file.proofs.Entries.{found, has, found_made, has_ascending, has-append, rises_made}
use Rattle.book_file.proofs.Sums.{added, is_sum, sum_turns, sum_groups}

-- the entries of bodies
abbrev pub entries_of : List (List ℕ) → List Entry
entries_of bodies = map (entry_of bodies) (ascending by_bytes bodies)

-- what is found of so many, where there is one
abbrev counted_at : Bool → ℕ → Option ℕ
counted_at some n = cond some (Some n) None

found_bodies : (bodies : List (List ℕ)) (q : List ℕ) → found q (entries_of bodies) ≡ counted_at (has q bodies) (times bodies q)
found_bodies bodies q = found_made (times bodies) (ascending by_bytes bodies) q ∙ ap (λ b. counted_at b (times bodies q)) (has_ascending q bodies)

pub none_times : (bodies : List (List ℕ)) (q : List ℕ) → has q bodies ≡ false → times bodies q ≡ 0
none_times [] q h = refl
none_times (b ∷ bodies) q h =
    elim (is_at (by_bytes q) b) as (λ t. is_at (by_bytes q) b ≡ t → (t || has q bodies) ≡ false → length (cond (bytes_eq q b) (b ∷ filter (bytes_eq q) bodies) (filter (bytes_eq q) bodies)) ≡ 0) [
      | true ↦ λ e h. (let no : true ≡ false = h in cc)
      | false ↦ λ e h. ap (λ t. length (cond t (b ∷ filter (bytes_eq q) bodies) (filter (bytes_eq q) bodies))) (sym (is_eq-slice_cmp q b) ∙ e) ∙ none_times bodies q h
    ] refl h

times-append : (xs ys : List (List ℕ)) (q : List ℕ) → times (xs ++ ys) q ≡ times xs q + times ys q
times-append xs ys q = ap length (filter-append (bytes_eq q) xs ys) ∙ length-append (filter (bytes_eq q) xs) (filter (bytes_eq q) ys)

added_at : (a b : Bool) (m n : ℕ) → (a ≡ false → m ≡ 0) → (b ≡ false → n ≡ 0) → counted_at (a || b) (m + n) ≡ added (counted_at a m) (counted_at b n)
added_at true true m n f g = refl
added_at true false m n f g = let e : m + n ≡ m + 0 = ap (λ x. m + x) (g refl) in ap (λ x. Some x) e
added_at false true m n f g = let e : m + n ≡ 0 + n = ap (λ x. x + n) (f refl) in ap (λ x. Some x) e
added_at false false m n f g = refl

-- the entries of both lists of bodies
pub entries-append : (xs ys : List (List ℕ)) → entries_of (xs ++ ys) ≡ entries_sum (entries_of xs) (entries_of ys)
entries-append xs ys = is_sum (entries_of xs) (entries_of ys) (entries_of (xs ++ ys)) (rises_made (times (xs ++ ys)) (xs ++ ys)) (λ q.
    found_bodies (xs ++ ys) q
    ∙ ap₂ counted_at (has-append q xs ys) (times-append xs ys q)
    ∙ added_at (has q xs) (has q ys) (times xs q) (times ys q) (none_times xs q) (none_times ys q)
    ∙ ap₂ added (sym (found_bodies xs q)) (sym (found_bodies ys q)))

bodies-append : (e : ℕ) (xs ys : List Record) → bodies_of e (xs ++ ys) ≡ bodies_of e xs ++ bodies_of e ys
unfolding bodies_of
bodies-append e xs ys = ap (map body_of) (filter-append (is_taken e) xs ys) ∙ map-append body_of (filter (is_taken e) xs) (filter (is_taken e) ys)

-- the sum of two books is the book of both
pub book_sum : (e : ℕ) (xs ys : List Record) → sum_of (book_of e xs) (book_of e ys) ≡ book_of e (xs ++ ys)
unfolding sum_of book_of
book_sum e xs ys =
    let other : Record → Bool = λ r. not (is_taken e r) in
    let dropped : length (filter other xs) + length (filter other ys) ≡ length (filter other (xs ++ ys)) =
    sym (ap length (filter-append other xs ys) ∙ length-append (filter other xs) (filter other ys)) in
    let entries : entries_sum (entries_of (bodies_of e xs)) (entries_of (bodies_of e ys)) ≡ entries_of (bodies_of e (xs ++ ys)) =
    sym (entries-append (bodies_of e xs) (bodies_of e ys)) ∙ ap entries_of (sym (bodies-append e xs ys)) in
    λ i. record { epoch = e; dropped = dropped i; entries = entries i }

-- in either order
pub book_turns : (e : ℕ) (xs ys : List Record) → book_of e (xs ++ ys) ≡ book_of e (ys ++ xs)
unfolding sum_of book_of
book_turns e xs ys =
    let other : Record → Bool = λ r. not (is_taken e r) in
    let dropped : length (filter other xs) + length (filter other ys) ≡ length (filter other ys) + length (filter other xs) = omega arith in
    sym (book_sum e xs ys)
    ∙ (λ i. record { epoch = e; dropped = dropped i; entries = sum_turns (entries_of (bodies_of e xs)) (entries_of (bodies_of e ys)) i })
    ∙ book_sum e ys xs

-- sums in any grouping
pub books_group : (a b c : Book) → sum_of (sum_of a b) c ≡ sum_of a (sum_of b c)
unfolding sum_of
books_group a b c =
    let dropped : (a.dropped + b.dropped) + c.dropped ≡ a.dropped + (b.dropped + c.dropped) = omega arith in
    λ i. record { epoch = a.epoch; dropped = dropped i; entries = sum_groups a.entries b.entries c.entries i }

-- sums in either order
pub books_turn : (a b : Book) → a.epoch ≡ b.epoch → sum_of a b ≡ sum_of b a
unfolding sum_of
books_turn a b same =
    let dropped : a.dropped + b.dropped ≡ b.dropped + a.dropped = omega arith in
    λ i. record { epoch = same i; dropped = dropped i; entries = sum_turns a.entries b.entries i }
