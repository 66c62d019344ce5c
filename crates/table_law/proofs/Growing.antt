-- What one more row adds to the prefixes of a length, and how many rows begin with a front.
use Rattle.std.proofs.Common.{◌≡◌, ℕ, suc, ◌+◌, ◌<◌, Bool, true, false, cond, not, ◌&&◌, List, [], ◌∷◌, ◌++◌, refl, sym, ap, ap₂, ◌∙◌, subst, map, filter, length, take, get_or, slice_index, replicate, arith, eqb}
use Rattle.std.specs.Prelude.{if◌then◌else◌, nat_le, count_by}
use Rattle.std.proofs.lemmas.List.{take_more, get_or-map, get_or_default, length-map, map-append}
use Rattle.std.proofs.lemmas.List.Elements.{filter-append}
use Rattle.star_lists.specs.FirstOnes.{first_ones}
use Rattle.star_lists.proofs.Elements.{in_at}
use Rattle.star_lists.proofs.FirstOnes.{first_ones_push, any_first}
use Rattle.layer_walk.specs.declared.revealed.OpenedGroup.{OpenedGroup}
use Rattle.table_law.specs.Prefixes.{Values, value_at, same_front, how_many, is_open, entry, prefixes_of}
use Rattle.table_law.specs.Fronts.{first_of, firsts_of, opens_of, AreCounts}
use Rattle.table_law.specs.Reveals.{IsValue, IsRowOf, IsTableOf}
use Rattle.table_law.proofs.FrontLaws.{front_joins}
use Rattle.table_law.proofs.RowPlaces.{first_below, counted, own_first}

-- the prefixes of n values that the rows of a list show, each at the first row that begins with it
abbrev pub shown : List Values → List ℕ → ℕ → List Values → List OpenedGroup
shown table ks n rows = map (entry table ks n) (filter (is_open table ks n) (first_ones (same_front n) rows))

-- with one more row
pub shown_more : (table : List Values) (ks : List ℕ) (n i : ℕ) → i < length table →
    shown table ks n (take (i + 1) table) ≡ shown table ks n (take i table) ++ (if eqb (first_of table n (get_or table i [])) i && is_open table ks n (get_or table i []) then entry table ks n (get_or table i []) ∷ [] else [])
shown_more table ks n i lt =
    let row : Values = get_or table i [] in
    let firsts : List Values = first_ones (same_front n) (take i table) in
    let fresh : Bool = eqb (first_of table n row) i in
    let last : Bool → List Values = λ b. (if b then [] else row ∷ []) in
    ap (shown table ks n) (take_more table i [] lt)
    ∙ ap (λ rows. map (entry table ks n) (filter (is_open table ks n) rows))
    (first_ones_push (same_front n) (λ x y z h k. front_joins n y z x h k) (take i table) row
    ∙ ap (λ b. firsts ++ last b) (any_first (same_front n) (λ x y z h k. front_joins n y z x h k) row (take i table) ∙ own_first table n i lt))
    ∙ ap (map (entry table ks n)) (filter-append (is_open table ks n) firsts (last (not fresh)))
    ∙ map-append (entry table ks n) (filter (is_open table ks n) firsts) (filter (is_open table ks n) (last (not fresh)))
    ∙ ap (λ l. shown table ks n (take i table) ++ l) (one fresh (is_open table ks n row) refl)
  where
    one : (b o : Bool) → is_open table ks n (get_or table i []) ≡ o →
        map (entry table ks n) (filter (is_open table ks n) (if not b then [] else get_or table i [] ∷ [])) ≡ (if b && o then entry table ks n (get_or table i []) ∷ [] else [])
    one true true e = ap (λ t. map (entry table ks n) (cond t (get_or table i [] ∷ []) [])) e
    one true false e = ap (λ t. map (entry table ks n) (cond t (get_or table i [] ∷ []) [])) e
    one false o e = refl

-- all rows show all of them
pub shown_all : (table : List Values) (ks : List ℕ) (n i : ℕ) → take i table ≡ table → shown table ks n (take i table) ≡ prefixes_of table ks n
unfolding prefixes_of
shown_all table ks n i all = ap (shown table ks n) all

-- ---- numbers of rows

pub first_at : (table : List Values) (n : ℕ) (firsts : List ℕ) → firsts ≡ firsts_of table n → (j : ℕ) → j < length table → slice_index firsts j ≡ first_of table n (get_or table j [])
unfolding firsts_of
first_at table n firsts known j lt = ap (λ l. slice_index l j) known ∙ get_or-map (first_of table n) table j [] 0 lt

pub firsts_long : (table : List Values) (n : ℕ) (firsts : List ℕ) → firsts ≡ firsts_of table n → length firsts ≡ length table
unfolding firsts_of
firsts_long table n firsts known = ap length known ∙ length-map table (first_of table n)

pub firsts_below : (table : List Values) (n : ℕ) (firsts : List ℕ) → firsts ≡ firsts_of table n → (j : ℕ) → j < length table → slice_index firsts j < length table
firsts_below table n firsts known j lt = omega (arith, first_at table n firsts known j lt, first_below table n (get_or table j []) (in_at table j [] lt))

-- the count at the first row is how many begin with the same values
pub count_at : (table : List Values) (n : ℕ) (firsts counts : List ℕ) → firsts ≡ firsts_of table n → AreCounts firsts counts → (j : ℕ) → j < length table →
    slice_index counts (slice_index firsts j) ≡ how_many table n (get_or table j [])
count_at table n firsts counts known are j lt =
    let row : Values = get_or table j [] in
    are.each (slice_index firsts j) (omega (arith, firsts_below table n firsts known j lt, firsts_long table n firsts known))
    ∙ ap₂ (λ (m : ℕ) (l : List ℕ). count_by (λ q. eqb q m) l) (first_at table n firsts known j lt) known
    ∙ counted table n row (in_at table j [] lt)

pub own_count : (table : List Values) (n : ℕ) (firsts counts : List ℕ) → firsts ≡ firsts_of table n → AreCounts firsts counts → (j : ℕ) → j < length table → slice_index firsts j ≡ j →
    slice_index counts j ≡ how_many table n (get_or table j [])
own_count table n firsts counts known are j lt own = ap (slice_index counts) (sym own) ∙ count_at table n firsts counts known are j lt

pub open_at : (table : List Values) (ks : List ℕ) (n : ℕ) (opens : List Bool) → opens ≡ opens_of table ks n → (j : ℕ) (d : Bool) → j < length table → get_or opens j d ≡ is_open table ks n (get_or table j [])
unfolding opens_of
open_at table ks n opens known j d lt = ap (λ l. get_or l j d) known ∙ get_or-map (is_open table ks n) table j [] d lt

pub opens_long : (table : List Values) (ks : List ℕ) (n : ℕ) (opens : List Bool) → opens ≡ opens_of table ks n → length opens ≡ length table
unfolding opens_of
opens_long table ks n opens known = ap length known ∙ length-map table (is_open table ks n)

-- a row is open with one value more if it was open and enough rows begin with it
pub open_more : (table : List Values) (ks : List ℕ) (n : ℕ) (row : Values) → is_open table ks (n + 1) row ≡ (is_open table ks n row && nat_le (slice_index ks n) (how_many table (n + 1) row))
unfolding is_open
open_more table ks n row =
    ap (λ m. is_open table ks m row) {x = n + 1} {y = suc n} (omega arith)
    ∙ ap (λ m. is_open table ks n row && nat_le (slice_index ks n) (how_many table m row)) {x = suc n} {y = n + 1} (omega arith)

-- ---- no values

pub mapped_alike : {X Y : Type 0} (f : X → Y) (y : Y) → ((x : X) → f x ≡ y) → (xs : List X) → replicate (length xs) y ≡ map f xs
mapped_alike f y h [] = refl
mapped_alike f y h (x ∷ xs) = λ i. sym (h x) i ∷ mapped_alike f y h xs i

pub firsts_none : (table : List Values) → replicate (length table) 0 ≡ firsts_of table 0
unfolding firsts_of same_front
firsts_none table = mapped_alike (first_of table 0) 0 (λ row. first_none table row) table
  where
    first_none : (rows : List Values) (row : Values) → first_of rows 0 row ≡ 0
    first_none [] row = refl
    first_none (r ∷ rows) row = refl

pub opens_none : (table : List Values) (ks : List ℕ) → replicate (length table) true ≡ opens_of table ks 0
unfolding opens_of is_open
opens_none table ks = mapped_alike (is_open table ks 0) true (λ row. refl) table

-- rows of values make a table
pub is_table : (table : List Values) (ks : List ℕ) → ((i : ℕ) → i < length table → length (get_or table i []) ≡ length ks) →
    ((l : ℕ) → l < length ks → (i : ℕ) → i < length table → IsValue (value_at (get_or table i []) l)) → IsTableOf ks table
is_table table ks width values i d lt =
    let row : Values = get_or table i [] in
    let is : row ≡ get_or table i d = get_or_default table i [] d lt in
    subst (IsRowOf ks) is (record {
      width = width i lt;
      values = λ l e within. subst IsValue (get_or_default row l [] e within) (values l (omega (arith, width i lt)) i lt);
    })
