-- Records are a table, or too many, or have one first bad place.
use Rattle.std.proofs.Common.{◌≡◌, ◌∙◌, ◌<◌, ◌≤◌, ◌⊎◌, ◌+◌, ℕ, zero, suc, true, false, List, [], length, get_or, sym, subst, arith, add-one, below_more, inl, inr}
use Rattle.std.proofs.lemmas.Bool.{cases_Bool, cases_lt}
use Rattle.report_frame.specs.declared.version.Version.{Version}
use Rattle.client_table.specs.Table.{HasBadPlace, HasTooManyRows, IsBadTable, IsFirstBad, IsRow, IsTable, cells_of, is_bad_at}
use Rattle.client_table.specs.declared.read.TheConstants.{MAX_ROWS}
use Rattle.client_table.proofs.Cells.{good-row}

-- a row is bad nowhere
pub row-not-bad : (version : Version) (width : ℕ) (cells : List (List ℕ)) (c : ℕ) → IsRow version width cells → IsFirstBad version width cells c → ⊥
row-not-bad version width cells c row bad = let both : true ≡ false = sym bad.bad ∙ row.good c in cc

-- a record has one first bad column
first-once : (version : Version) (width : ℕ) (cells : List (List ℕ)) (a b : ℕ) → IsFirstBad version width cells a → IsFirstBad version width cells b → b ≤ a
first-once version width cells a b at_a at_b = elim (cases_lt a b) [
  | inl lt ↦ let both : true ≡ false = sym at_a.bad ∙ at_b.first a lt in cc
  | inr le ↦ le
]

-- a table has one first bad record
row-once : (version : Version) (width : ℕ) (rows : List (List (List ℕ))) (a b c d : ℕ) → IsBadTable version width rows a c → IsBadTable version width rows b d → b ≤ a
row-once version width rows a b c d at_a at_b = elim (cases_lt a b) [
  | inl lt ↦ absurd (row-not-bad version width (get_or rows a []) c (at_b.before a lt) at_a.here)
  | inr le ↦ le
]

-- so the first bad place is one
pub place-once : (version : Version) (width : ℕ) (rows : List (List (List ℕ))) (a b c d : ℕ) → IsBadTable version width rows a c → IsBadTable version width rows b d → (a ≡ b) × (c ≡ d)
place-once version width rows a b c d at_a at_b =
    let low = row-once version width rows a b c d at_a at_b in
    let high = row-once version width rows b a d c at_b at_a in
    let same : a ≡ b = omega arith in
    let here = subst (λ (row : ℕ). IsFirstBad version width (get_or rows row []) c) same at_a.here in
    let left = first-once version width (get_or rows b []) c d here at_b.here in
    let right = first-once version width (get_or rows b []) d c at_b.here here in
    (same, omega arith)

-- a table has no bad place
pub table-not-bad : (version : Version) (width : ℕ) (rows : List (List (List ℕ))) (row column : ℕ) → IsTable version width rows → IsBadTable version width rows row column → ⊥
table-not-bad version width rows row column table bad = row-not-bad version width (get_or rows row []) column (table.each row bad.there) bad.here

-- the columns below n are good, or one of them is the first bad one
good-below : (version : Version) (width : ℕ) (cells : List (List ℕ)) (n : ℕ) → ((k : ℕ) → k < n → is_bad_at version width cells k ≡ false) ⊎ ((c : ℕ) × IsFirstBad version width cells c)
good-below version width cells zero = inl (λ k lt. absurd (omega arith))
good-below version width cells (suc n) = elim (good-below version width cells n) [
  | inl good ↦ elim (cases_Bool (is_bad_at version width cells n)) [
    | inl bad ↦ inr (n, record { bad = bad; first = good })
    | inr here ↦ inl (rw (← add-one) (below_more (λ k. is_bad_at version width cells k ≡ false) n good here))
  ]
  | inr bad ↦ inr bad
]

-- a record is a row, or has a first bad column
row-or-bad : (version : Version) (width : ℕ) (cells : List (List ℕ)) → IsRow version width cells ⊎ ((c : ℕ) × IsFirstBad version width cells c)
row-or-bad version width cells = elim (good-below version width cells (cells_of version width + 1)) [ inl good ↦ inl (good-row version width cells good) | inr bad ↦ inr bad ]

-- the records below n are rows, or one of them is the first bad one
rows-below : (version : Version) (width : ℕ) (rows : List (List (List ℕ))) (n : ℕ) → length rows ≤ MAX_ROWS → n ≤ length rows
    → ((k : ℕ) → k < n → IsRow version width (get_or rows k [])) ⊎ HasBadPlace version width rows
rows-below version width rows zero few within = inl (λ k lt. absurd (omega arith))
rows-below version width rows (suc n) few within = elim (rows-below version width rows n few (omega arith)) [
  | inl good ↦ elim (row-or-bad version width (get_or rows n [])) [
    | inl row ↦ inl (rw (← add-one) (below_more (λ k. IsRow version width (get_or rows k [])) n good row))
    | inr bad ↦ inr (n, bad.0, record { few = few; there = omega arith; here = bad.1; before = good })
  ]
  | inr bad ↦ inr bad
]

-- records are a table, or too many, or have a first bad place
pub some-outcome : (version : Version) (width : ℕ) (rows : List (List (List ℕ))) → IsTable version width rows ⊎ HasTooManyRows rows ⊎ HasBadPlace version width rows
some-outcome version width rows = elim (cases_lt MAX_ROWS (length rows)) [
  | inl many ↦ inr (inl many)
  | inr few ↦ elim (rows-below version width rows (length rows) few (omega arith)) [
    | inl each ↦ inl (record { few = few; each = each })
    | inr bad ↦ inr (inr bad)
  ]
]
