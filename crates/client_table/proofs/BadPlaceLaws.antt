-- The first bad place of a table as a function: it gives the place of which the relation speaks.
use Rattle.std.proofs.Common.{◌≡◌, ◌∙◌, ◌<◌, ◌+◌, ℕ, zero, suc, Bool, true, false, List, [], length, get_or, Some, None, refl, ap, subst, arith, inl, inr}
use Rattle.std.specs.Prelude.{◌≤◌, ◌↔◌, is_some}
use Rattle.std.proofs.lemmas.Bool.{cases_lt}
use Rattle.report_frame.specs.declared.version.Version.{Version}
use Rattle.client_table.specs.Table.{IsTable, IsBadTable, IsFirstBad, IsRow, cells_of, is_bad_at}
use Rattle.client_table.proofs.Cells.{good-row}
use Rattle.client_table.specs.declared.read.TheConstants.{MAX_ROWS}
use Rattle.client_table.proofs.Places.{row-not-bad, some-outcome}
use Rattle.client_table.specs.BadPlace.{first_below, bad_column, bad_row, bad_place}

-- if none below n passes, none is found
pub below_none : (test : ℕ → Bool) (n : ℕ) → ((k : ℕ) → k < n → test k ≡ false) → first_below test n ≡ None
unfolding first_below
below_none test zero none = refl
below_none test (suc n) none = rw (below_none test n (λ k lt. none k (omega arith)), none n (omega arith)) refl

-- the first that passes is found
pub below_some : (test : ℕ → Bool) (n i : ℕ) → i < n → test i ≡ true → ((k : ℕ) → k < i → test k ≡ false) → first_below test n ≡ Some i
unfolding first_below
below_some test zero i lt here before = absurd (omega arith)
below_some test (suc n) i lt here before = elim (cases_lt i n) [
  | inl low ↦ rw (below_some test n i low here before) refl
  | inr high ↦
      let same : n ≡ i = omega arith in
      let none = below_none test n (λ k le. before k (omega arith)) in
      rw (none, ap test same ∙ here, same) refl
]

-- a row has no bad column
row_none : (version : Version) (width : ℕ) (cells : List (List ℕ)) → IsRow version width cells → bad_column version width cells ≡ None
row_none version width cells row = below_none (is_bad_at version width cells) (cells_of version width + 1) (λ k lt. row.good k)

-- the first bad column is found
column_some : (version : Version) (width : ℕ) (cells : List (List ℕ)) (column : ℕ) → IsFirstBad version width cells column → bad_column version width cells ≡ Some column
column_some version width cells column bad = elim (cases_lt (cells_of version width) column) [
  | inl behind ↦ absurd (row-not-bad version width cells column (good-row version width cells (λ k lt. bad.first k (omega arith))) bad)
  | inr within ↦ below_some (is_bad_at version width cells) (cells_of version width + 1) column (omega arith) bad.bad bad.first
]

-- a table has no bad place
pub table_none : (version : Version) (width : ℕ) (rows : List (List (List ℕ))) → IsTable version width rows → bad_place version width rows ≡ None
unfolding bad_place
table_none version width rows table =
    let none : bad_row version width rows ≡ None = below_none (λ row. is_some (bad_column version width (get_or rows row []))) (length rows)
    (λ k lt. ap is_some (row_none version width (get_or rows k []) (table.each k lt))) in
    rw none refl

-- the first bad place is found
pub place_some : (version : Version) (width : ℕ) (rows : List (List (List ℕ))) (row column : ℕ) → IsBadTable version width rows row column → bad_place version width rows ≡ Some (row, column)
unfolding bad_place
place_some version width rows row column bad =
    let here = column_some version width (get_or rows row []) column bad.here in
    let found : bad_row version width rows ≡ Some row = below_some (λ row. is_some (bad_column version width (get_or rows row []))) (length rows) row bad.there
    (ap is_some here) (λ k lt. ap is_some (row_none version width (get_or rows k []) (bad.before k lt))) in
    rw (found, here) refl

-- if there are not too many records, the place that is found is the first bad one
pub place_is : (version : Version) (width row column : ℕ) (rows : List (List (List ℕ))) → length rows ≤ MAX_ROWS → (bad_place version width rows ≡ Some (row, column)) ↔ IsBadTable version width rows row column
place_is version width row column rows few = (
  λ is. elim (some-outcome version width rows) [
    | inl table ↦ let none = table_none version width rows table in absurd cc
    | inr other ↦ elim other [
      | inl many ↦ absurd (omega (arith, many, few))
      | inr bad ↦
          let found = place_some version width rows bad.0 bad.1 bad.2 in
          let same : (bad.0, bad.1) ≡ (row, column) = cc in
          subst (λ (place : ℕ × ℕ). IsBadTable version width rows place.0 place.1) same bad.2
    ]
  ],
  λ bad. place_some version width rows row column bad,
)

-- and if none is found they are a table
pub none_is : (version : Version) (width : ℕ) (rows : List (List (List ℕ))) → length rows ≤ MAX_ROWS → (bad_place version width rows ≡ None) ↔ IsTable version width rows
none_is version width rows few = (
  λ is. elim (some-outcome version width rows) [
    | inl table ↦ table
    | inr other ↦ elim other [
      | inl many ↦ absurd (omega (arith, many, few))
      | inr bad ↦ let found = place_some version width rows bad.0 bad.1 bad.2 in absurd cc
    ]
  ],
  λ table. table_none version width rows table,
)
