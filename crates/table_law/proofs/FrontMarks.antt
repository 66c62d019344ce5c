-- The fronts of rows, as the keys of a map, and the first row of each.
use Rattle.std.proofs.Common.{◌≡◌, ℕ, ◌+◌, ◌<◌, true, ◌&&◌, List, [], Some, sym, ap, ◌∙◌, subst, length, get_or, slice_index, arith, eqb, eqb-true, eq-eqb}
use Rattle.std.specs.Prelude.{unwrap_or}
use Rattle.std.specs.BTreeMap.{BTreeMap, get}
use Rattle.std.proofs.lemmas.List.{get_or_default}
use Rattle.std.specs.Str.{bytes_eq}
use Rattle.std.specs.Ordering.{is_eq}
use Rattle.std.specs.Cmp.{first_so, second_so}
use Rattle.std.specs.Cmp.Lexicographic.{bytes_decides}
use Rattle.std.specs.declared.cmp.Ordering.{Ordering}
use Rattle.std.proofs.lemmas.Bool.{and_from}
use Rattle.table_law.specs.declared.fronts.Front.{Front}
use Rattle.table_law.specs.contracts.fronts.FrontOrd.TheImpl as front_ord
use Rattle.table_law.specs.contracts.fronts.FrontOrd.TheImpl.Laws.{matches_eq-law}
use Rattle.table_law.specs.Prefixes.{Values, value_at}
use Rattle.table_law.specs.Fronts.{first_of, firsts_of}
use Rattle.table_law.proofs.FirstPlaces.{IsFirst, HasFirsts, first_found}
use Rattle.table_law.proofs.RowPlaces.{first_longer}
use Rattle.table_law.proofs.Growing.{first_at}

-- the order of the map
abbrev pub front_cmp : Front → Front → Ordering
front_cmp = (front_ord.ghosts).cmp

-- the front of row j
abbrev pub front_of : List Values → ℕ → List ℕ → ℕ → Front
front_of table layer firsts j = record { before = slice_index firsts j; value = value_at (get_or table j []) layer }

-- fronts tie exactly if they are the same
pub fronts_tie : (a b : Front) → is_eq (front_cmp a b) ≡ true → (a.before ≡ b.before) × (a.value ≡ b.value)
fronts_tie a b h =
    let same : (eqb a.before b.before && bytes_eq a.value b.value) ≡ true = matches_eq-law a b ∙ h in
    (eqb-true a.before b.before (first_so _ _ same), (bytes_decides a.value b.value).0 (second_so (eqb a.before b.before) _ same))

pub tied_fronts : (a b : Front) → a.before ≡ b.before → a.value ≡ b.value → is_eq (front_cmp a b) ≡ true
tied_fronts a b before value =
    sym (matches_eq-law a b) ∙ and_from _ _ (eq-eqb a.before b.before before) ((bytes_decides a.value b.value).1 value)

-- ---- a row's first one, found by the map

-- the value that was read of a row
pub value_there : (xs row : Values) (value : List ℕ) (l : ℕ) → xs ≡ row → value ≡ get_or xs l value → l < length row → value ≡ value_at row l
value_there xs row value l is at within = at ∙ ap (λ r. get_or r l value) is ∙ get_or_default row l value [] within

-- the place that was found is that of the first row that begins with one value more
pub front_step : (table : List Values) (layer i place : ℕ) (firsts : List ℕ) (key : Front) (places : BTreeMap Front ℕ) → firsts ≡ firsts_of table layer → i < length table →
    key.before ≡ slice_index firsts i → key.value ≡ value_at (get_or table i []) layer → HasFirsts front_cmp (front_of table layer firsts) i places →
    place ≡ unwrap_or (get front_cmp places key) i → first_of table (layer + 1) (get_or table i []) ≡ place
front_step table layer i place firsts key places known within before value h is =
    let P : ℕ → Type 0 = λ j. is_eq (front_cmp (front_of table layer firsts j) key) ≡ true in
    let at = first_at table layer firsts known in
    let found : IsFirst P (i + 1) (Some place) =
    subst (λ p. IsFirst P (i + 1) (Some p)) (sym is)
    (first_found P i (get front_cmp places key) (h key) (tied_fronts (front_of table layer firsts i) key (sym before) (sym value))) in
    let tie = fronts_tie (front_of table layer firsts place) key found.1 in
    first_longer table layer i place within found.0
    (sym (at place (omega (arith, found.0))) ∙ tie.0 ∙ before ∙ at i within) (tie.1 ∙ value)
    (λ j lt same_first same_value. found.2 j lt
    (tied_fronts (front_of table layer firsts j) key (at j (omega (arith, found.0)) ∙ same_first ∙ sym (at i within) ∙ sym before) (same_value ∙ sym value)))
