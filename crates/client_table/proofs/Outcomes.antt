-- The rows that were taken, and what a result says of them.
use Rattle.std.proofs.Common.{◌≡◌, ◌∙◌, ◌+◌, ◌<◌, ◌⊎◌, ℕ, List, [], ◌∷◌, ◌++◌, length, get_or, map, Result, Ok, Err, IfOk, IsOk, refl, ap, sym, subst, arith, inl, inr, below_more, length-append, rules}
use Rattle.std.proofs.Math.ListN.{get_or-append}
use Rattle.std.proofs.lemmas.List.{get_or-map, length-take, length-map}
use Rattle.std.proofs.Math.Seq.{get_or-append_seam}
use Rattle.report_frame.specs.declared.version.Version.{Version}
use Rattle.report_frame.specs.declared.version.Version.TheVariants.{One, Two}
use Rattle.client_table.specs.Table.{HasTooManyRows, IsBadTable, IsFirstBad, IsRow, IsTable, cells_of, row2_of}
use Rattle.client_table.specs.Answer.{IsAnswer, IsRefusal}
use Rattle.client_table.specs.declared.read.TableError.{TableError}
use Rattle.client_table.specs.declared.read.TableError.TheVariants.{BadTable, NoMemory, TooMany}
use Rattle.client_table.proofs.Cells.{row-length}
use Rattle.client_table.proofs.Places.{place-once, table-not-bad}

-- each row is good, after one more good row
pub rows-more : (version : Version) (width n : ℕ) (table : List (List (List ℕ))) (cells : List (List ℕ)) → length table ≡ n → ((k : ℕ) → k < n → IsRow version width (get_or table k [])) → IsRow version width cells
    → (k : ℕ) → k < n + 1 → IsRow version width (get_or (table ++ cells ∷ []) k [])
rows-more version width n table cells long each row =
    below_more (λ k. IsRow version width (get_or (table ++ cells ∷ []) k [])) n
    (λ k lt. let low : k < length table = omega arith in subst (IsRow version width) (sym (get_or-append table (cells ∷ []) [] k low)) (each k lt))
    (subst (IsRow version width) (sym (ap (λ k. get_or (table ++ cells ∷ []) k []) (sym long) ∙ get_or-append_seam table cells [] [])) row)

-- a row is after those before it
row-there : (table rest : List (List (List ℕ))) (cells : List (List ℕ)) → get_or (table ++ cells ∷ rest) (length table) [] ≡ cells
row-there table rest cells = get_or-append_seam table cells rest []

-- the cause of a refusal at the first bad place
pub refused : {Table : Type 0} (version : Version) (width column : ℕ) (all table rest : List (List (List ℕ))) (cells : List (List ℕ)) (wanted : Table) (error : TableError)
    → table ++ cells ∷ rest ≡ all → ((k : ℕ) → k < length table → IsRow version width (get_or table k [])) → IsFirstBad version width cells column
    → IsRefusal (length table) column (length rest) error → IsAnswer version width all wanted (Err error)
refused version width column all table rest cells wanted TooMany is each bad refusal =
    let long : length all ≡ length table + length (cells ∷ rest) = sym (ap length is) ∙ length-append table (cells ∷ rest) in
    omega (arith, long, refusal)
refused version width column all table rest cells wanted (BadTable r c) is each bad refusal =
    let long : length all ≡ length table + length (cells ∷ rest) = sym (ap length is) ∙ length-append table (cells ∷ rest) in
    rw (refusal.1, refusal.2) (record {
      few = omega (arith, long, refusal.0);
      there = omega (arith, long);
      here = subst (λ row. IsFirstBad version width row column) (sym (row-there table rest cells) ∙ ap (λ rows. get_or rows (length table) []) is) bad;
      before = λ k lt. subst (IsRow version width) (sym (get_or-append table (cells ∷ rest) [] k lt) ∙ ap (λ rows. get_or rows k []) is) (each k lt);
    })
refused version width column all table rest cells wanted NoMemory is each bad refusal = tt

-- the rows of a table have as many cells as are due
table-length : (version : Version) (width : ℕ) (rows : List (List (List ℕ))) → IsTable version width rows → (i : ℕ) → i < length rows → length (get_or rows i []) ≡ cells_of version width
table-length version width rows table i lt = row-length version width (get_or rows i []) (table.each i lt)

-- so those of a result have as many values as the table is wide
pub answer-width : (width : ℕ) (rows : List (List (List ℕ))) (answer : Result (List (List (List ℕ))) TableError) → IsAnswer One width rows rows answer
    → IfOk answer (λ table. (i : ℕ) → i < length table → length (get_or table i []) ≡ width)
answer-width width rows (Ok table) is = λ i lt.
    let within : i < length rows = omega (arith, ap length is.0) in
    ap (λ (t : List (List (List ℕ))). length (get_or t i [])) is.0 ∙ table-length One width rows is.1 i within
answer-width width rows (Err error) is = search rules

pub answer-width2 : (width : ℕ) (rows : List (List (List ℕ))) (answer : Result (List (List (List ℕ) × List ℕ)) TableError) → IsAnswer Two width rows (map (row2_of width) rows) answer
    → IfOk answer (λ table. (i : ℕ) → i < length table → length (get_or table i ([], [])).0 ≡ width)
answer-width2 width rows (Ok table) is = λ i lt.
    let within : i < length rows = omega (arith, ap length is.0, length-map {A = List (List ℕ)} {B = List (List ℕ) × List ℕ}) in
    let cells = table-length Two width rows is.1 i within in
    ap (λ (t : List (List (List ℕ) × List ℕ)). length (get_or t i ([], [])).0) is.0
    ∙ ap (λ (row : List (List ℕ) × List ℕ). length row.0) (get_or-map (row2_of width) rows i [] ([], []) within)
    ∙ omega (arith, cells, length-take width (get_or rows i []))
answer-width2 width rows (Err error) is = search rules

-- a table is returned as such
pub answer-good : {Table : Type 0} (version : Version) (width : ℕ) (rows : List (List (List ℕ))) (wanted : Table) (answer : Result Table TableError) → IsAnswer version width rows wanted answer
    → IsTable version width rows → IsOk answer ⊎ (answer ≡ Err NoMemory)
answer-good version width rows wanted (Ok table) is good = inl (search rules)
answer-good version width rows wanted (Err TooMany) is good = absurd (omega (arith, good.few))
answer-good version width rows wanted (Err (BadTable row column)) is good = absurd (table-not-bad version width rows row column good is)
answer-good version width rows wanted (Err NoMemory) is good = inr refl

-- so are too many rows
pub answer-too_many : {Table : Type 0} (version : Version) (width : ℕ) (rows : List (List (List ℕ))) (wanted : Table) (answer : Result Table TableError) → IsAnswer version width rows wanted answer
    → HasTooManyRows rows → (answer ≡ Err TooMany) ⊎ (answer ≡ Err NoMemory)
answer-too_many version width rows wanted (Ok table) is many = absurd (omega (arith, is.1.few))
answer-too_many version width rows wanted (Err TooMany) is many = inl refl
answer-too_many version width rows wanted (Err (BadTable row column)) is many = absurd (omega (arith, is.few))
answer-too_many version width rows wanted (Err NoMemory) is many = inr refl

-- and a bad place as that place
pub answer-bad : {Table : Type 0} (version : Version) (width : ℕ) (rows : List (List (List ℕ))) (wanted : Table) (answer : Result Table TableError) → IsAnswer version width rows wanted answer
    → (row column : ℕ) → IsBadTable version width rows row column → (answer ≡ Err (BadTable row column)) ⊎ (answer ≡ Err NoMemory)
answer-bad version width rows wanted (Ok table) is row column bad = absurd (table-not-bad version width rows row column is.1 bad)
answer-bad version width rows wanted (Err TooMany) is row column bad = absurd (omega (arith, bad.few))
answer-bad version width rows wanted (Err (BadTable r c)) is row column bad =
    let same = place-once version width rows r row c column is bad in
    inl (cc (same.0, same.1))
answer-bad version width rows wanted (Err NoMemory) is row column bad = inr refl
