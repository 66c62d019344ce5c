-- Records have one book in whatever order they come, and machines the same records.
use Rattle.std.proofs.Common.{◌≡◌, ℕ, suc, ◌+◌, Bool, true, false, cond, not, ◌||◌, List, [], ◌∷◌, Some, None, refl, sym, ap, ◌∙◌, map, filter, length, length-append, arith}
use Rattle.std.specs.Prelude.{◌&&◌, ◌==◌}
use Rattle.std.specs.List.{flat_map, sum_by}
use Rattle.std.specs.List.Sorted.{IsPermutation}
use Rattle.std.specs.Str.{bytes_eq}
use Rattle.std.proofs.lemmas.Bool.{ne_eqb}
use Rattle.std.proofs.lemmas.List.Elements.{filter-append}
use Rattle.std.proofs.lemmas.List.Sorted.{sum_by-IsPermutation}
use Rattle.std.proofs.lemmas.List.Sums.{sum_by-cons}
use Rattle.std.proofs.lemmas.Map.Text.{is_eq-slice_cmp}
use Rattle.star_io.specs.declared.record.Record.{Record}
use Rattle.star_lists.specs.Ascending.{ascending}
use Rattle.star_lists.specs.Elements.{EquallyOften}
use Rattle.star_lists.proofs.Counted.{length-filter-map}
use Rattle.star_lists.proofs.Mapped.{filter_both}
use Rattle.book_file.specs.Book.{by_bytes}
use Rattle.book_file.specs.BookOf.{is_taken, body_of, bodies_of, times, book_of}
use Rattle.book_file.proofs.Entries.{found, has, found_made, has_ascending, rises_made, same_entries}
use Rattle.book_file.proofs.BookLaws.{entries_of}
use Rattle.book_merge.specs.Machines.{records_of_all}

-- ---- records

-- each frame stands equally often among the bodies
often_bodies : (e : ℕ) (xs ys : List Record) → EquallyOften xs ys → EquallyOften (bodies_of e xs) (bodies_of e ys)
unfolding bodies_of
often_bodies e xs ys often p =
    let counted : (rs : List Record) → length (filter p (map body_of (filter (is_taken e) rs))) ≡ length (filter (λ r. is_taken e r && p (body_of r)) rs) = λ rs.
    length-filter-map p body_of (filter (is_taken e) rs) ∙ ap length (filter_both (is_taken e) (λ r. p (body_of r)) rs) in
    counted xs ∙ often (λ r. is_taken e r && p (body_of r)) ∙ sym (counted ys)

-- a frame is there where it stands at least once
has_times : (q : List ℕ) (bodies : List (List ℕ)) → has q bodies ≡ not (times bodies q == 0)
has_times q [] = refl
has_times q (b ∷ bodies) =
    ap (λ t. t || has q bodies) (is_eq-slice_cmp q b)
    ∙ elim (bytes_eq q b) as (λ t. (t || has q bodies) ≡ not (length (cond t (b ∷ filter (bytes_eq q) bodies) (filter (bytes_eq q) bodies)) == 0)) [
      | true ↦ sym (ap not (ne_eqb (suc (length (filter (bytes_eq q) bodies))) 0 (λ none. omega (arith, none))))
      | false ↦ has_times q bodies
    ]

found_times : (bodies : List (List ℕ)) (q : List ℕ) → found q (entries_of bodies) ≡ cond (not (times bodies q == 0)) (Some (times bodies q)) None
found_times bodies q =
    found_made (times bodies) (ascending by_bytes bodies) q
    ∙ ap (λ b. cond b (Some (times bodies q)) None) (has_ascending q bodies ∙ has_times q bodies)

same_entries_of : (xs ys : List (List ℕ)) → EquallyOften xs ys → entries_of xs ≡ entries_of ys
same_entries_of xs ys often =
    same_entries (entries_of xs) (entries_of ys) (rises_made (times xs) xs) (rises_made (times ys) ys) (λ q.
    found_times xs q
    ∙ ap (λ n. cond (not (n == 0)) (Some n) None) (often (bytes_eq q))
    ∙ sym (found_times ys q))

-- the same records have the same book
pub same_book : (e : ℕ) (xs ys : List Record) → EquallyOften xs ys → book_of e xs ≡ book_of e ys
unfolding book_of
same_book e xs ys often =
    let entries : entries_of (bodies_of e xs) ≡ entries_of (bodies_of e ys) = same_entries_of (bodies_of e xs) (bodies_of e ys) (often_bodies e xs ys often) in
    λ i. record { epoch = e; dropped = often (λ r. not (is_taken e r)) i; entries = entries i }

-- ---- machines

counted_flat : {X Y : Type 0} (p : Y → Bool) (f : X → List Y) (xs : List X) → length (filter p (flat_map f xs)) ≡ sum_by (λ x. length (filter p (f x))) xs
counted_flat p f [] = refl
counted_flat p f (x ∷ xs) =
    ap length (filter-append p (f x) (flat_map f xs))
    ∙ length-append (filter p (f x)) (filter p (flat_map f xs))
    ∙ ap (λ n. length (filter p (f x)) + n) (counted_flat p f xs)
    ∙ sym (sum_by-cons (λ x. length (filter p (f x))) x xs)

-- what elements in another order give stands equally often
pub often_turned : {X Y : Type 0} (f : X → List Y) (xs ys : List X) → IsPermutation xs ys → EquallyOften (flat_map f xs) (flat_map f ys)
often_turned f xs ys turned p =
    counted_flat p f xs
    ∙ sym (sum_by-IsPermutation (λ x. length (filter p (f x))) xs ys turned)
    ∙ sym (counted_flat p f ys)

-- machines in another order have the same records as often
pub turned_machines : (machines others : List (List Record)) → IsPermutation machines others → EquallyOften (records_of_all machines) (records_of_all others)
turned_machines machines others turned = often_turned (λ (records : List Record). records) machines others turned
