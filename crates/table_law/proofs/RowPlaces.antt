-- The rows of a table by the first row that begins with the same values.
use Rattle.std.proofs.Common.{◌≡◌, ℕ, zero, suc, ◌+◌, ◌<◌, ◌≤◌, Bool, true, false, not, ◌||◌, List, [], ◌∷◌, inl, inr, Some, refl, sym, ap, ◌∙◌, subst, map, filter, length, take, get_or, arith, eqb, eqb-true, eq-eqb}
use Rattle.std.specs.Prelude.{if◌then◌else◌, unwrap_or, count_by}
use Rattle.std.specs.Option.{option_map}
use Rattle.std.specs.List.{list_any}
use Rattle.std.specs.Cmp.{both_ways}
use Rattle.std.proofs.lemmas.Bool.{cases_lt, false≢true, ne_eqb, or_right}
use Rattle.std.proofs.lemmas.List.Folds.{list_any_more}
use Rattle.std.proofs.lemmas.List.Sums.{length-filter}
use Rattle.star_lists.specs.Places.{place_of}
use Rattle.star_lists.proofs.Elements.{In, in_at}
use Rattle.star_lists.proofs.Mapped.{filter_agree_in, filter-map}
use Rattle.table_law.specs.Prefixes.{Values, value_at, same_front, how_many}
use Rattle.table_law.specs.Fronts.{first_of, firsts_of}
use Rattle.table_law.proofs.FrontLaws.{front_itself, front_turned, front_joins, front_before, front_last, front_more, front_alike}

-- the place of an element that passes, if none before it does
pub place_is : {X : Type 0} (test : X → Bool) (xs : List X) (p : ℕ) (d : X) → p < length xs → test (get_or xs p d) ≡ true → ((j : ℕ) → j < p → test (get_or xs j d) ≡ true → ⊥) → place_of test xs ≡ Some p
place_is test [] p d lt here before = absurd (omega (arith, lt))
place_is test (x ∷ xs) zero d lt here before = ap (λ b. if b then Some 0 else option_map suc (place_of test xs)) here
place_is test (x ∷ xs) (suc p) d lt here before =
    elim (test x) as (λ b. test x ≡ b → (if b then Some 0 else option_map suc (place_of test xs)) ≡ Some (suc p)) [
      | true ↦ λ e. absurd (before 0 (omega arith) e)
      | false ↦ λ e. ap (option_map suc) (place_is test xs p d (omega (arith, lt)) here (λ j l t. before (suc j) (omega (arith, l)) t))
    ] refl

-- the first element that passes
pub record PlaceOf {X : Type 0} (test : X → Bool) (xs : List X) (d : X) : Type 0 where
  pub place : ℕ
  pub is : place_of test xs ≡ Some place
  pub within : place < length xs
  pub here : test (get_or xs place d) ≡ true
  pub before : (j : ℕ) → j < place → test (get_or xs j d) ≡ false

-- there is one if some element passes
pub place_found : {X : Type 0} (test : X → Bool) (xs : List X) (d z : X) → In z xs → test z ≡ true → PlaceOf test xs d
place_found test [] d z i h = absurd i
place_found test (x ∷ xs) d z i h =
    elim (test x) as (λ b. test x ≡ b → PlaceOf test (x ∷ xs) d) [
      | true ↦ λ e. record { place = 0; is = ap (λ b. if b then Some 0 else option_map suc (place_of test xs)) e; within = omega arith; here = e; before = λ j lt. absurd (omega arith) }
      | false ↦ λ e.
          let r = place_found test xs d z (behind i e) h in
          record { place = suc r.place; is = ap (λ b. if b then Some 0 else option_map suc (place_of test xs)) e ∙ ap (option_map suc) r.is; within = omega (arith, r.within); here = r.here; before = λ j lt. earlier e r.place r.before j lt }
    ] refl
  where
    behind : In z (x ∷ xs) → test x ≡ false → In z xs
    behind (inl same) e = absurd (false≢true (sym e ∙ ap test (sym same) ∙ h))
    behind (inr j) e = j

    earlier : test x ≡ false → (p : ℕ) → ((j : ℕ) → j < p → test (get_or xs j d) ≡ false) → (j : ℕ) → j < suc p → test (get_or (x ∷ xs) j d) ≡ false
    earlier e p h zero lt = e
    earlier e p h (suc j) lt = h j (omega (arith, lt))

-- ---- the first row that begins with the same values

pub first_place_of : (table : List Values) (n : ℕ) (row : Values) → In row table → PlaceOf (same_front n row) table []
first_place_of table n row i = place_found (same_front n row) table [] row i (front_itself n row)

pub first_is : (table : List Values) (n : ℕ) (row : Values) (i : In row table) → first_of table n row ≡ (first_place_of table n row i).place
first_is table n row i = ap (λ o. unwrap_or o 0) (first_place_of table n row i).is

-- it is a row
pub first_below : (table : List Values) (n : ℕ) (row : Values) → In row table → first_of table n row < length table
first_below table n row i = let r = first_place_of table n row i in omega (arith, first_is table n row i, r.within)

-- and one that begins with the same values
pub first_like : (table : List Values) (n : ℕ) (row : Values) → In row table → same_front n row (get_or table (first_of table n row) []) ≡ true
first_like table n row i =
    subst (λ p. same_front n row (get_or table p []) ≡ true) (sym (first_is table n row i)) (first_place_of table n row i).here

-- rows begin with the same values if they have the same first one
pub same_firsts : (table : List Values) (n : ℕ) (a b : Values) → same_front n a b ≡ true → first_of table n a ≡ first_of table n b
same_firsts table n a b h = ap (λ o. unwrap_or o 0) (λ i. place_of (λ c. front_alike n a b c h i) table)

pub firsts_same : (table : List Values) (n : ℕ) (a b : Values) → In a table → In b table → first_of table n a ≡ first_of table n b → same_front n a b ≡ true
firsts_same table n a b i j e =
    front_joins n a (get_or table (first_of table n a) []) b (first_like table n a i)
    (subst (λ p. same_front n (get_or table p []) b ≡ true) (sym e) (front_turned n b (get_or table (first_of table n b) []) (first_like table n b j)))

-- the first one among rows, found by the first ones of one value less and by that value
pub first_longer : (table : List Values) (n i p : ℕ) → i < length table → p < i + 1 →
    first_of table n (get_or table p []) ≡ first_of table n (get_or table i []) → value_at (get_or table p []) n ≡ value_at (get_or table i []) n →
    ((j : ℕ) → j < p → first_of table n (get_or table j []) ≡ first_of table n (get_or table i []) → value_at (get_or table j []) n ≡ value_at (get_or table i []) n → ⊥) →
    first_of table (n + 1) (get_or table i []) ≡ p
first_longer table n i p within lt first value before =
    let row : Values = get_or table i [] in
    ap (λ m. first_of table m row) {x = n + 1} {y = suc n} (omega arith)
    ∙ ap (λ o. unwrap_or o 0) (place_is (same_front (suc n) row) table p [] (omega arith)
    (front_more n row (get_or table p []) (firsts_same table n row (get_or table p []) (in_at table i [] within) (in_at table p [] (omega arith)) (sym first)) (sym value))
    (λ j less same. before j less (sym (same_firsts table n row (get_or table j []) (front_before n row (get_or table j []) same))) (sym (front_last n row (get_or table j []) same))))

-- no row before row i passes a test
none_before : (f : Values → Bool) (table : List Values) (i : ℕ) → i ≤ length table → ((j : ℕ) → j < i → f (get_or table j []) ≡ false) → list_any f (take i table) ≡ false
none_before f table zero le h = refl
none_before f table (suc i) le h =
    ap (λ n. list_any f (take n table)) {x = suc i} {y = i + 1} (omega arith)
    ∙ list_any_more f table i [] (omega arith)
    ∙ (λ k. none_before f table i (omega arith) (λ j lt. h j (omega arith)) k || h i (omega arith) k)

-- or row p does
one_before : (f : Values → Bool) (table : List Values) (i p : ℕ) → i ≤ length table → p < i → f (get_or table p []) ≡ true → list_any f (take i table) ≡ true
one_before f table zero p le lt h = absurd (omega arith)
one_before f table (suc i) p le lt h =
    ap (λ n. list_any f (take n table)) {x = suc i} {y = i + 1} (omega arith)
    ∙ list_any_more f table i [] (omega arith)
    ∙ elim (cases_lt p i) [
      | inl less ↦ ap (λ b. b || f (get_or table i [])) (one_before f table i p (omega arith) less h)
      | inr ge ↦ or_right (list_any f (take i table)) (f (get_or table i [])) (ap (λ n. f (get_or table n [])) {x = i} {y = p} (omega arith) ∙ h)
    ]

-- a row is its own first one exactly if no row before it begins with the same values
pub own_first : (table : List Values) (n i : ℕ) → i < length table → list_any (λ z. same_front n z (get_or table i [])) (take i table) ≡ not (eqb (first_of table n (get_or table i [])) i)
own_first table n i lt =
    let row : Values = get_or table i [] in
    let inside : In row table = in_at table i [] lt in
    let r = first_place_of table n row inside in
    let is : first_of table n row ≡ r.place = first_is table n row inside in
    elim (cases_lt r.place i) [
      | inl less ↦
          one_before (λ z. same_front n z row) table i r.place (omega arith) less (front_turned n row (get_or table r.place []) r.here)
          ∙ sym (ap not (ne_eqb (first_of table n row) i (λ e. let both : first_of table n row ≡ i = e in omega arith)))
      | inr ge ↦ elim (cases_lt i r.place) [
        | inl more ↦ absurd (false≢true (sym (r.before i more) ∙ front_itself n row))
        | inr le ↦
            none_before (λ z. same_front n z row) table i (omega arith)
            (λ j before. front_sides n (get_or table j []) row ∙ r.before j (omega arith))
            ∙ sym (ap not (eq-eqb (first_of table n row) i (omega arith)))
      ]
    ]
  where
    front_sides : (n : ℕ) (a b : Values) → same_front n a b ≡ same_front n b a
    front_sides n a b = both_ways (same_front n a b) (same_front n b a) (front_turned n a b) (front_turned n b a)

-- how many rows begin with the same values
pub counted : (table : List Values) (n : ℕ) (row : Values) → In row table → count_by (λ m. eqb m (first_of table n row)) (firsts_of table n) ≡ how_many table n row
unfolding firsts_of
counted table n row i =
    sym (length-filter (λ m. eqb m (first_of table n row)) (map (first_of table n) table))
    ∙ ap length (filter-map (λ m. eqb m (first_of table n row)) (λ r. eqb (first_of table n r) (first_of table n row)) (first_of table n) (λ r. refl) table)
    ∙ length-mapped
    ∙ ap length (filter_agree_in (λ r. eqb (first_of table n r) (first_of table n row)) (same_front n row) table (λ r j.
    both_ways (eqb (first_of table n r) (first_of table n row)) (same_front n row r)
    (λ e. firsts_same table n row r i j (sym (eqb-true _ _ e)))
    (λ e. eq-eqb _ _ (sym (same_firsts table n row r e)))))
  where
    length-mapped : length (map (first_of table n) (filter (λ r. eqb (first_of table n r) (first_of table n row)) table)) ≡ length (filter (λ r. eqb (first_of table n r) (first_of table n row)) table)
    length-mapped = Rattle.std.proofs.lemmas.List.length-map _ _
