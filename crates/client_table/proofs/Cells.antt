-- The cells of a record, and where it is bad.
use Rattle.std.proofs.Common.{◌≡◌, ◌∙◌, ◌<◌, ◌≤◌, ◌||◌, ◌==◌, ◌+◌, ℕ, zero, suc, Bool, true, false, List, [], ◌∷◌, ◌++◌, length, take, get_or, Option, Some, None, refl, ap, sym, subst, arith, inl, inr, eq-eqb}
use Rattle.std.specs.Prelude.{nat_lt, is_some}
use Rattle.std.proofs.lemmas.Bool.{cases_lt, le-ltb, lt-ltb, or_parts}
use Rattle.std.proofs.lemmas.Bool.Decides.{nat_tests}
use Rattle.report_frame.specs.declared.limits.TheConstants.{MAX_VALUE}
use Rattle.report_frame.specs.declared.version.Version.{Version}
use Rattle.report_frame.specs.declared.version.Version.TheVariants.{One}
use Rattle.csv.specs.Records.{field_at}
use Rattle.client_table.specs.Table.{IsRow, cells_of, is_bad_length, is_bad_at, is_bad_cell}

-- a record has a cell at each place below its length
field-there : (cells : List (List ℕ)) (i : ℕ) → i < length cells → (cell : List ℕ) × (field_at cells i ≡ Some cell)
unfolding field_at
field-there [] i lt = absurd (omega arith)
field-there (f ∷ fs) zero lt = (f, refl)
field-there (f ∷ fs) (suc i) lt = field-there fs i (omega arith)

-- and none from there on
field-gone : (cells : List (List ℕ)) (i : ℕ) → length cells ≤ i → field_at cells i ≡ None
unfolding field_at
field-gone [] i le = refl
field-gone (f ∷ fs) zero le = absurd (omega arith)
field-gone (f ∷ fs) (suc i) le = field-gone fs i (omega arith)

-- if it has none, its length is no greater
gone-length : (cells : List (List ℕ)) (i : ℕ) → field_at cells i ≡ None → length cells ≤ i
gone-length cells i gone = elim (cases_lt i (length cells)) [
  | inl lt ↦ let there = field-there cells i lt in let bad : None ≡ Some there.0 = sym gone ∙ there.1 in cc
  | inr le ↦ omega arith
]

-- a record is bad at a column where a cell is due and there is none
pub missing-cell : (version : Version) (width c : ℕ) (cells : List (List ℕ)) → field_at cells c ≡ None → c < cells_of version width → is_bad_at version width cells c ≡ true
missing-cell version width c cells gone lt =
    let bad : nat_lt c (cells_of version width) ≡ true = grind (arith, nat_tests) in
    ap (is_bad_cell version width c) gone ∙ bad

-- and at the one after the last if there is one
pub cell-behind : (version : Version) (width : ℕ) (cells : List (List ℕ)) (cell : List ℕ) → field_at cells (cells_of version width) ≡ Some cell → is_bad_at version width cells (cells_of version width) ≡ true
cell-behind version width cells cell there =
    let last = cells_of version width in
    let bad : ((last == last) || is_bad_length version width last (length cell)) ≡ true = grind (arith, nat_tests) in
    ap (is_bad_cell version width last) there ∙ bad

-- a record that is good up to its last column and has no cell after it is a row
pub row-ends : (version : Version) (width : ℕ) (cells : List (List ℕ)) → ((k : ℕ) → k < cells_of version width → is_bad_at version width cells k ≡ false) → field_at cells (cells_of version width) ≡ None
    → IsRow version width cells
row-ends version width cells below gone = record {
  good = λ c. elim (cases_lt c (cells_of version width)) [
    | inl lt ↦ below c lt
    | inr le ↦ ap (is_bad_cell version width c) (field-gone cells c (let short = gone-length cells (cells_of version width) gone in omega arith)) ∙ le-ltb c (cells_of version width) le
  ];
}

-- a record that is good after its last column has no cell there
good-gone : (version : Version) (width : ℕ) (cells : List (List ℕ)) (o : Option (List ℕ)) → field_at cells (cells_of version width) ≡ o → is_bad_at version width cells (cells_of version width) ≡ false → o ≡ None
good-gone version width cells None is good = refl
good-gone version width cells (Some cell) is good =
    let bad : true ≡ false = sym (cell-behind version width cells cell is) ∙ good in cc

-- a record that is good up to there is a row
pub good-row : (version : Version) (width : ℕ) (cells : List (List ℕ)) → ((k : ℕ) → k < cells_of version width + 1 → is_bad_at version width cells k ≡ false) → IsRow version width cells
good-row version width cells each =
    row-ends version width cells (λ k lt. each k (omega arith)) (good-gone version width cells (field_at cells (cells_of version width)) refl (each (cells_of version width) (omega arith)))

-- a row has as many cells as are due
pub row-length : (version : Version) (width : ℕ) (cells : List (List ℕ)) → IsRow version width cells → length cells ≡ cells_of version width
row-length version width cells row =
    let due = cells_of version width in
    let high : length cells ≤ due = gone-length cells due (good-gone version width cells (field_at cells due) refl (row.good due)) in
    elim (cases_lt (length cells) due) [
      | inl lt ↦
          let bad : true ≡ false = sym (missing-cell version width (length cells) cells (field-gone cells (length cells) (omega arith)) lt) ∙ row.good (length cells) in cc
      | inr low ↦ omega arith
    ]

-- a cell that is there is the one at its place
pub there-at : (cells : List (List ℕ)) (n : ℕ) (cell : List ℕ) → field_at cells n ≡ Some cell → get_or cells n [] ≡ cell
unfolding field_at
there-at [] n cell is = cc is
there-at (f ∷ fs) zero cell is = cc is
there-at (f ∷ fs) (suc n) cell is = there-at fs n cell is

-- each cell of a row of version 1 is a value
pub row-value : (width : ℕ) (cells : List (List ℕ)) → IsRow One width cells → (i : ℕ) → i < length cells → (1 ≤ length (get_or cells i [])) × (length (get_or cells i []) ≤ MAX_VALUE)
row-value width cells row i lt =
    let there = field-there cells i lt in
    let cell : List ℕ = there.0 in
    let same : get_or cells i [] ≡ cell = there-at cells i cell there.1 in
    let good : ((i == width) || ((length cell == 0) || nat_lt MAX_VALUE (length cell))) ≡ false = ap (is_bad_cell One width i) (sym there.1) ∙ row.good i in
    subst (λ (v : List ℕ). (1 ≤ length v) × (length v ≤ MAX_VALUE)) (sym same) (none_bad (i == width) (length cell) good)
  where
    none_bad : (behind : Bool) (size : ℕ) → (behind || ((size == 0) || nat_lt MAX_VALUE size)) ≡ false → (1 ≤ size) × (size ≤ MAX_VALUE)
    none_bad true size good = absurd (let bad : true ≡ false = good in cc)
    none_bad false size good =
        let parts = or_parts (size == 0) (nat_lt MAX_VALUE size) good in (
          elim (cases_lt 0 size) [
            | inl some ↦ omega (arith, some)
            | inr none ↦ absurd (let bad : true ≡ false = sym (eq-eqb size 0 (omega arith)) ∙ parts.0 in cc)
          ],
          elim (cases_lt MAX_VALUE size) [
            | inl many ↦ absurd (let bad : true ≡ false = sym (lt-ltb MAX_VALUE size many) ∙ parts.1 in cc)
            | inr few ↦ few
          ],
        )

-- the first cells and the one after them
pub take-cell : (cells : List (List ℕ)) (n : ℕ) (cell : List ℕ) → field_at cells n ≡ Some cell → take (suc n) cells ≡ take n cells ++ cell ∷ []
unfolding field_at
take-cell [] n cell is = cc is
take-cell (f ∷ fs) zero cell is = ap (λ (x : List ℕ). x ∷ []) (cc is)
take-cell (f ∷ fs) (suc n) cell is = ap (λ (t : List (List ℕ)). f ∷ t) (take-cell fs n cell is)

-- the first cells are all, if there is none after them
pub take-gone : (cells : List (List ℕ)) (n : ℕ) → field_at cells n ≡ None → take n cells ≡ cells
unfolding field_at
take-gone [] zero gone = refl
take-gone [] (suc n) gone = refl
take-gone (f ∷ fs) zero gone = cc gone
take-gone (f ∷ fs) (suc n) gone = ap (λ (t : List (List ℕ)). f ∷ t) (take-gone fs n gone)

-- an option that is not some is none
pub none-of : {X : Type 0} (o : Option X) → is_some o ≡ false → o ≡ None
none-of None e = refl
none-of (Some x) e = cc e
