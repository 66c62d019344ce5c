-- Sums of entries, by what is found at a frame.
use Rattle.std.proofs.Common.{◌≡◌, ℕ, zero, suc, length, take, ◌+◌, ◌-◌, ◌≤◌, true, false, cond, ◌||◌, List, [], ◌∷◌, ◌++◌, Option, Some, None, refl, sym, ap, ◌∙◌, subst, map, arith, eq-eqb, eqb-true}
use Rattle.std.specs.Prelude.{is_some, unwrap_or, ◌==◌, All, IsSome, IfSome, sum}
use Rattle.std.specs.Option.{option_map}
use Rattle.std.proofs.lemmas.Map.Entries.{sum_by-insert_entry}
use Rattle.std.specs.Cmp.{both_ways}
use Rattle.std.specs.List.{Contains, AllByRecursion}
use Rattle.std.specs.List.Sorted.{IsStrictlySortedBy}
use Rattle.std.specs.declared.cmp.Ordering.TheVariants.{Less}
use Rattle.std.proofs.Math.Seq.{take-append_seam}
use Rattle.std.proofs.lemmas.List.Elements.{All-cons, All-nil, All-head, All-tail}
use Rattle.std.proofs.lemmas.List.Sums.{sum_by_push}
use Rattle.std.proofs.lemmas.List.{length-map, map-append}
use Rattle.std.specs.Map.{keys_of, values_of}
use Rattle.std.proofs.lemmas.Option.{none-some}
use Rattle.std.proofs.lemmas.Cmp.{nat_list_cmp_total, eq_by_cmp_equiv}
use Rattle.std.proofs.lemmas.Map.Keys.{IsDistinct-from_sorted, sorted_tail}
use Rattle.std.proofs.lemmas.Map.Lookups.{exact_bytes}
use Rattle.std.proofs.lemmas.Map.Views.{tells_apart, IfSome-lookup_from_All, All-keys_from_lookup, All-values_from_lookup, Contains-keys_from_lookup}
use Rattle.std.specs.BTreeMap.{is_at, insert_entry}
use Rattle.std.proofs.lemmas.Map.Made.{is_some-lookup}
use Rattle.star_lists.specs.Ascending.{ascending}
use Rattle.book_file.specs.Book.{Entry, by_bytes, count_in}
use Rattle.book_file.specs.BookOf.{entries_sum}
use Rattle.book_file.proofs.Entries.{Rises, found, has, at_same, at_itself, none_later, same_entries, found_made, has_ascending, has-append, rises_made}

-- both counts, where one of them is there
abbrev pub added : Option ℕ → Option ℕ → Option ℕ
added o p = cond (is_some o || is_some p) (Some (unwrap_or o 0 + unwrap_or p 0)) None

pub found_sum : (q : List ℕ) (xs ys : List Entry) → found q (entries_sum xs ys) ≡ added (found q xs) (found q ys)
unfolding entries_sum
found_sum q xs ys =
    let there : has q (ascending by_bytes (keys_of xs ++ keys_of ys)) ≡ (is_some (found q xs) || is_some (found q ys)) =
    has_ascending q (keys_of xs ++ keys_of ys) ∙ has-append q (keys_of xs) (keys_of ys)
    ∙ (λ i. sym (is_some-lookup (is_at (by_bytes q)) xs) i || sym (is_some-lookup (is_at (by_bytes q)) ys) i) in
    found_made (λ f. count_in xs f + count_in ys f) (ascending by_bytes (keys_of xs ++ keys_of ys)) q
    ∙ ap (λ b. cond b (Some (count_in xs q + count_in ys q)) None) there

pub rises_sum : (xs ys : List Entry) → Rises (entries_sum xs ys)
unfolding entries_sum
rises_sum xs ys = rises_made (λ f. count_in xs f + count_in ys f) (keys_of xs ++ keys_of ys)

-- entries are a sum that have its counts
pub is_sum : (xs ys zs : List Entry) → Rises zs → ((q : List ℕ) → found q zs ≡ added (found q xs) (found q ys)) → zs ≡ entries_sum xs ys
is_sum xs ys zs rises h = same_entries zs (entries_sum xs ys) rises (rises_sum xs ys) (λ q. h q ∙ sym (found_sum q xs ys))

added_none : (o : Option ℕ) → added o None ≡ o
added_none None = refl
added_none (Some n) = let e : n + 0 ≡ n = omega arith in ap (λ m. Some m) e

added_turns : (o p : Option ℕ) → added o p ≡ added p o
added_turns None None = refl
added_turns None (Some m) = let e : 0 + m ≡ m + 0 = omega arith in ap (λ m. Some m) e
added_turns (Some n) None = let e : n + 0 ≡ 0 + n = omega arith in ap (λ m. Some m) e
added_turns (Some n) (Some m) = let e : n + m ≡ m + n = omega arith in ap (λ m. Some m) e

added_groups : (o p r : Option ℕ) → added (added o p) r ≡ added o (added p r)
added_groups None None None = refl
added_groups None None (Some c) = let e : 0 + c ≡ 0 + (0 + c) = omega arith in ap (λ m. Some m) e
added_groups None (Some b) None = let e : (0 + b) + 0 ≡ 0 + (b + 0) = omega arith in ap (λ m. Some m) e
added_groups None (Some b) (Some c) = let e : (0 + b) + c ≡ 0 + (b + c) = omega arith in ap (λ m. Some m) e
added_groups (Some a) None None = let e : (a + 0) + 0 ≡ a + 0 = omega arith in ap (λ m. Some m) e
added_groups (Some a) None (Some c) = let e : (a + 0) + c ≡ a + (0 + c) = omega arith in ap (λ m. Some m) e
added_groups (Some a) (Some b) None = let e : (a + b) + 0 ≡ a + (b + 0) = omega arith in ap (λ m. Some m) e
added_groups (Some a) (Some b) (Some c) = let e : (a + b) + c ≡ a + (b + c) = omega arith in ap (λ m. Some m) e

-- nothing more
pub sum_nil : (xs : List Entry) → Rises xs → entries_sum xs [] ≡ xs
sum_nil xs rises = sym (is_sum xs [] xs rises (λ q. sym (added_none (found q xs))))

-- in either order
pub sum_turns : (xs ys : List Entry) → entries_sum xs ys ≡ entries_sum ys xs
sum_turns xs ys = is_sum ys xs (entries_sum xs ys) (rises_sum xs ys) (λ q. found_sum q xs ys ∙ added_turns (found q xs) (found q ys))

-- in any grouping
pub sum_groups : (xs ys zs : List Entry) → entries_sum (entries_sum xs ys) zs ≡ entries_sum xs (entries_sum ys zs)
sum_groups xs ys zs =
    is_sum xs (entries_sum ys zs) (entries_sum (entries_sum xs ys) zs) (rises_sum (entries_sum xs ys) zs) (λ q.
    found_sum q (entries_sum xs ys) zs ∙ ap (λ o. added o (found q zs)) (found_sum q xs ys)
    ∙ added_groups (found q xs) (found q ys) (found q zs)
    ∙ ap (added (found q xs)) (sym (found_sum q ys zs)))

at_either : (q f : List ℕ) → is_at (by_bytes f) q ≡ is_at (by_bytes q) f
at_either q f = both_ways (is_at (by_bytes f) q) (is_at (by_bytes q) f)
    (λ h. subst (λ x. is_at (by_bytes q) x ≡ true) (sym (at_same f q h)) (at_itself q))
    (λ h. subst (λ x. is_at (by_bytes f) x ≡ true) (sym (at_same q f h)) (at_itself f))

added_one : (o : Option ℕ) (n : ℕ) → added o (Some n) ≡ Some (unwrap_or o 0 + n)
added_one None n = refl
added_one (Some m) n = refl

-- what is found with one more entry
pub found_one : (xs : List Entry) (f q : List ℕ) (n : ℕ) → added (found q xs) (found q ((f, n) ∷ [])) ≡ cond (is_at (by_bytes f) q) (Some (count_in xs f + n)) (found q xs)
found_one xs f q n =
    elim (is_at (by_bytes q) f) as (λ b. is_at (by_bytes q) f ≡ b → added (found q xs) (cond b (Some n) None) ≡ cond (is_at (by_bytes f) q) (Some (count_in xs f + n)) (found q xs)) [
      | true ↦ λ h.
          added_one (found q xs) n ∙ ap (λ x. Some (count_in xs x + n)) (at_same q f h)
          ∙ ap (λ b. cond b (Some (count_in xs f + n)) (found q xs)) (sym (at_either q f ∙ h))
      | false ↦ λ h. added_none (found q xs) ∙ ap (λ b. cond b (Some (count_in xs f + n)) (found q xs)) (sym (at_either q f ∙ h))
    ] refl

-- the entries in which a frame is counted more often
pub is_more : (xs zs : List Entry) (f : List ℕ) (n v : ℕ) → Rises zs → v ≡ count_in xs f + n → ((q : List ℕ) → found q zs ≡ cond (is_at (by_bytes f) q) (Some v) (found q xs)) → zs ≡ entries_sum xs ((f, n) ∷ [])
is_more xs zs f n v rises is h = is_sum xs ((f, n) ∷ []) zs rises (λ q. h q ∙ ap (λ m. cond (is_at (by_bytes f) q) (Some m) (found q xs)) is ∙ sym (found_one xs f q n))

pub found_behind : (q : List ℕ) (xs ys : List Entry) → found q (xs ++ ys) ≡ None → found q ys ≡ None
found_behind q [] ys h = h
found_behind q (x ∷ xs) ys h =
    elim (is_at (by_bytes q) x.0) as (λ b. cond b (Some x.1) (found q (xs ++ ys)) ≡ None → found q ys ≡ None) [
      | true ↦ λ h. absurd (none-some x.1 (sym h))
      | false ↦ λ h. found_behind q xs ys h
    ] h

found_last : (xs : List Entry) (f : List ℕ) (n : ℕ) → Rises (xs ++ (f, n) ∷ []) → (q : List ℕ) → found q (xs ++ (f, n) ∷ []) ≡ added (found q xs) (found q ((f, n) ∷ []))
found_last [] f n rises q = sym (added_turns None (found q ((f, n) ∷ [])) ∙ added_none (found q ((f, n) ∷ [])))
found_last (x ∷ xs) f n rises q =
    elim (is_at (by_bytes q) x.0) as (λ b. is_at (by_bytes q) x.0 ≡ b → cond b (Some x.1) (found q (xs ++ (f, n) ∷ [])) ≡ added (cond b (Some x.1) (found q xs)) (found q ((f, n) ∷ []))) [
      | true ↦ λ h. sym (added_none (Some x.1)) ∙ ap (added (Some x.1)) (sym (found_behind q xs ((f, n) ∷ []) (none_later q x (xs ++ (f, n) ∷ []) rises h)))
      | false ↦ λ h. found_last xs f n (sorted_tail by_bytes x.0 (keys_of (xs ++ (f, n) ∷ [])) rises) q
    ] refl

-- an entry above the others stands last
pub sum_last : (xs : List Entry) (f : List ℕ) (n : ℕ) → Rises (xs ++ (f, n) ∷ []) → entries_sum xs ((f, n) ∷ []) ≡ xs ++ (f, n) ∷ []
sum_last xs f n rises = sym (is_sum xs ((f, n) ∷ []) (xs ++ (f, n) ∷ []) rises (found_last xs f n rises))

-- one more entry of the other
pub sum_more : (xs ys : List Entry) (f : List ℕ) (n : ℕ) → Rises (ys ++ (f, n) ∷ []) → entries_sum (entries_sum xs ys) ((f, n) ∷ []) ≡ entries_sum xs (ys ++ (f, n) ∷ [])
sum_more xs ys f n rises = sum_groups xs ys ((f, n) ∷ []) ∙ ap (entries_sum xs) (sum_last ys f n rises)

found_first : (f : List ℕ) (n : ℕ) (ys : List Entry) → Rises ((f, n) ∷ ys) → (q : List ℕ) → found q ((f, n) ∷ ys) ≡ added (found q ys) (found q ((f, n) ∷ []))
found_first f n ys rises q =
    elim (is_at (by_bytes q) f) as (λ b. is_at (by_bytes q) f ≡ b → cond b (Some n) (found q ys) ≡ added (found q ys) (cond b (Some n) None)) [
      | true ↦ λ h. sym (added_turns None (Some n) ∙ added_none (Some n)) ∙ ap (λ o. added o (Some n)) (sym (none_later q (f, n) ys rises h))
      | false ↦ λ h. sym (added_none (found q ys))
    ] refl

-- one entry fewer of the other, which stands first
pub sum_fewer : (xs ys : List Entry) (f : List ℕ) (n : ℕ) → Rises ((f, n) ∷ ys) → entries_sum xs ((f, n) ∷ ys) ≡ entries_sum (entries_sum xs ys) ((f, n) ∷ [])
sum_fewer xs ys f n rises = ap (entries_sum xs) (is_sum ys ((f, n) ∷ []) ((f, n) ∷ ys) rises (found_first f n ys rises)) ∙ sym (sum_groups xs ys ((f, n) ∷ []))

-- each count is at least 1
abbrev pub Counts : List Entry → Type 0
Counts es = All (λ n. 1 ≤ n) (values_of es)

-- what is left of a frame when so many fewer are counted
abbrev pub left_of : ℕ → ℕ → Option ℕ
left_of have n = cond (have == n) None (Some (have - n))

left_again : (o : Option ℕ) (n : ℕ) → IfSome o (λ m. 1 ≤ m) → left_of (unwrap_or o 0 + n) n ≡ o
left_again None n some = ap (λ b. cond b None (Some ((0 + n) - n))) (eq-eqb (0 + n) n (omega arith))
left_again (Some m) n some =
    let left : (m + n) - n ≡ m = omega arith in
    elim ((m + n) == n) as (λ b. ((m + n) == n) ≡ b → cond b None (Some ((m + n) - n)) ≡ Some m) [
      | true ↦ λ e. absurd (let same : m + n ≡ n = eqb-true (m + n) n e in omega (arith, some, same))
      | false ↦ λ e. ap (λ x. Some x) left
    ] refl

-- a frame that was counted more often is found
pub one_found : (xs ys : List Entry) (f : List ℕ) (n : ℕ) → ys ≡ entries_sum xs ((f, n) ∷ []) → found f ys ≡ Some (count_in xs f + n)
one_found xs ys f n is = ap (found f) is ∙ found_sum f xs ((f, n) ∷ []) ∙ found_one xs f f n ∙ ap (λ b. cond b (Some (count_in xs f + n)) (found f xs)) (at_itself f)

-- the entries before a frame was counted more often
pub is_less : (xs ys zs : List Entry) (f : List ℕ) (n : ℕ) → Rises xs → Counts xs → Rises zs → ys ≡ entries_sum xs ((f, n) ∷ []) → ((q : List ℕ) → found q zs ≡ cond (is_at (by_bytes f) q) (left_of (count_in ys f) n) (found q ys)) → zs ≡ xs
is_less xs ys zs f n rises counts above is h =
    same_entries zs xs above rises (λ q.
    let at : (q : List ℕ) → found q ys ≡ cond (is_at (by_bytes f) q) (Some (count_in xs f + n)) (found q xs) = λ q. ap (found q) is ∙ found_sum q xs ((f, n) ∷ []) ∙ found_one xs f q n in
    let have : count_in ys f ≡ count_in xs f + n = ap (λ o. unwrap_or o 0) (one_found xs ys f n is) in
    h q
    ∙ elim (is_at (by_bytes f) q) as (λ b. is_at (by_bytes f) q ≡ b → cond b (left_of (count_in ys f) n) (found q ys) ≡ found q xs) [
      | true ↦ λ here.
          ap (λ m. left_of m n) have
          ∙ left_again (found f xs) n (IfSome-lookup_from_All (λ m. 1 ≤ m) (is_at (by_bytes f)) xs counts)
          ∙ ap (λ x. found x xs) (at_same f q here)
      | false ↦ λ here. at q ∙ ap (λ b. cond b (Some (count_in xs f + n)) (found q xs)) here
    ] refl)

-- ---- what holds of each frame and each count

of_found : (P : List ℕ → Type 0) (q : List ℕ) (es : List Entry) → All P (keys_of es) → IsSome (found q es) → P q
of_found P q es all some =
    let in_keys : Contains (keys_of es) q = Contains-keys_from_lookup (tells_apart exact_bytes) q es some in
    subst P in_keys.2 (all in_keys.0 q in_keys.1)

either : (P : List ℕ → Type 0) (q : List ℕ) (xs ys : List Entry) → All P (keys_of xs) → All P (keys_of ys) → (o p : Option ℕ) → found q xs ≡ o → found q ys ≡ p → IsSome (added o p) → P q
either P q xs ys h k (Some n) p e f some = of_found P q xs h (subst IsSome (sym e) refl)
either P q xs ys h k None (Some n) e f some = of_found P q ys k (subst IsSome (sym f) refl)
either P q xs ys h k None None e f some = absurd (let no : false ≡ true = some in cc)

-- what holds of all frames of both holds of all of the sum
pub All-keys_sum : (P : List ℕ → Type 0) (xs ys : List Entry) → All P (keys_of xs) → All P (keys_of ys) → All P (keys_of (entries_sum xs ys))
All-keys_sum P xs ys h k =
    All-keys_from_lookup (eq_by_cmp_equiv nat_list_cmp_total) P (entries_sum xs ys) (λ q some. either P q xs ys h k (found q xs) (found q ys) refl refl (subst IsSome (found_sum q xs ys) some))

added_some : (o p : Option ℕ) → IfSome o (λ m. 1 ≤ m) → IfSome p (λ m. 1 ≤ m) → IfSome (added o p) (λ m. 1 ≤ m)
added_some None None h k = tt
added_some None (Some n) h k = omega (arith, k)
added_some (Some m) None h k = omega (arith, h)
added_some (Some m) (Some n) h k = omega (arith, h)

pub Counts-sum : (xs ys : List Entry) → Counts xs → Counts ys → Counts (entries_sum xs ys)
Counts-sum xs ys h k =
    All-values_from_lookup (eq_by_cmp_equiv nat_list_cmp_total) (λ m. 1 ≤ m) (entries_sum xs ys) (IsDistinct-from_sorted by_bytes (keys_of (entries_sum xs ys)) (rises_sum xs ys)) (λ q.
    subst (λ o. IfSome o (λ m. 1 ≤ m)) (sym (found_sum q xs ys)) (added_some (found q xs) (found q ys)
    (IfSome-lookup_from_All (λ m. 1 ≤ m) (is_at (by_bytes q)) xs h) (IfSome-lookup_from_All (λ m. 1 ≤ m) (is_at (by_bytes q)) ys k)))

-- ---- totals

-- a frame that is counted more often
pub total_more : (xs : List Entry) (f : List ℕ) (n v : ℕ) → Rises xs → v ≡ count_in xs f + n → sum (values_of (insert_entry by_bytes xs f v)) ≡ sum (values_of xs) + n
total_more xs f n v rises is =
    let step : sum (values_of (insert_entry by_bytes xs f v)) + unwrap_or (option_map (λ x. x) (found f xs)) 0 ≡ sum (values_of xs) + v = sum_by-insert_entry (λ x. x) nat_list_cmp_total xs f v rises in
    let same : unwrap_or (option_map (λ x. x) (found f xs)) 0 ≡ count_in xs f = elim (found f xs) as (λ o. unwrap_or (option_map (λ x. x) o) 0 ≡ unwrap_or o 0) [ None ↦ refl | Some m ↦ refl ] in
    omega (arith, step, same, is)

-- ---- fronts

pub rises_front : (xs ys : List Entry) → Rises (xs ++ ys) → Rises xs
unfolding IsStrictlySortedBy
rises_front [] ys h = tt
rises_front (x ∷ xs) ys h = (below_front x.0 xs h.0, rises_front xs ys h.1)
  where
    below_front : (f : List ℕ) (xs : List Entry) → AllByRecursion (λ g. by_bytes f g ≡ Less) (keys_of (xs ++ ys)) → AllByRecursion (λ g. by_bytes f g ≡ Less) (keys_of xs)
    below_front f [] h = tt
    below_front f (x ∷ xs) h = (h.0, below_front f xs h.1)

pub counts_front : (xs ys : List Entry) → Counts (xs ++ ys) → Counts xs
counts_front [] ys h = All-nil (λ n. 1 ≤ n)
counts_front (x ∷ xs) ys h = All-cons (λ n. 1 ≤ n) x.1 (values_of xs) (All-head (λ n. 1 ≤ n) x.1 (values_of (xs ++ ys)) h) (counts_front xs ys (All-tail (λ n. 1 ≤ n) x.1 (values_of (xs ++ ys)) h))

-- the first so many, where they stand apart
pub taken_so_far : {A X : Type 0} (shows : A → X) (ys : List A) (t all : List X) (n : ℕ) → n ≡ length ys → map shows ys ++ t ≡ all → take n all ≡ map shows ys
taken_so_far shows ys t all n count whole =
    ap (take n) (sym whole) ∙ ap (λ m. take m (map shows ys ++ t)) (count ∙ sym (length-map ys shows)) ∙ take-append_seam (map shows ys) t

pub take_first : {X : Type 0} (n : ℕ) (x : X) (xs : List X) → (n ≡ 0 → ⊥) → take n (x ∷ xs) ≡ x ∷ take (n - 1) xs
take_first zero x xs h = absurd (h refl)
take_first (suc n) x xs h = let less : n ≡ suc n - 1 = omega arith in ap (λ m. x ∷ take m xs) less

pub take_none : {X : Type 0} (n : ℕ) → let none : List X = [] in take n none ≡ none
take_none zero = refl
take_none (suc n) = refl

-- the total of one entry more
pub total_push : (xs : List Entry) (x : Entry) → sum (values_of (xs ++ x ∷ [])) ≡ sum (values_of xs) + x.1
total_push xs x = ap sum (map-append (λ (y : Entry). y.1) xs (x ∷ [])) ∙ sum_by_push (λ n. n) (values_of xs) x.1
