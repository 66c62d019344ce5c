-- The rows of a table with their places, and the rows of level 0.
use Rattle.std.proofs.Common.{◌≡◌, ◌≢◌, ℕ, suc, ◌+◌, ◌^◌, ◌<◌, ◌≤◌, List, [], ◌∷◌, inl, inr, Ok, refl, sym, ap, ◌∙◌, subst, map, length, get_or, arith}
use Rattle.std.specs.List.{range_with_len, cons_option}
use Rattle.star_io.specs.declared.record.Record.{Record}
use Rattle.star_io.specs.declared.record.Record.TheVariants.{Whole}
use Rattle.report_frame.specs.Thresholds.{AreThresholds}
use Rattle.report_frame.proofs.Frames.{decoded-frame}
use Rattle.nest_client.specs.Report.{client_of, report, layer, frame_of}
use Rattle.star_io.specs.RecordLists.{whole}
use Rattle.nest_client.specs.Stream.{row_frame, table_records}
use Rattle.star_lists.specs.Numbered.{numbered_from}
use Rattle.layer_walk.specs.Rows.{Row}
use Rattle.layer_walk.specs.Members.{frame_for}
use Rattle.layer_walk.specs.Reveal.{first_frame, row_of, outer_of, some_of, outer_rows, outer_refusals}
use Rattle.star_lists.proofs.Elements.{In, Pairwise, all_of}
use Rattle.report_frame.specs.declared.version.Version.TheVariants.{One}
use Rattle.table_law.specs.Prefixes.{Values, path_to}
use Rattle.table_law.specs.Layers.{check_before, layer_report}
use Rattle.table_law.specs.Reveals.{IsRowOf, IsTableOf}
use Rattle.report_frame.specs.Frame.{Fields}
use Rattle.report_frame.specs.declared.limits.TheConstants.{MAX_FRAME_ONE}
use Rattle.table_law.proofs.Held.{report_good, report_short, right_frame}

-- a row of the table with its place
pub record Placed : Type 0 where
  pub index : ℕ
  pub row : Values

abbrev pub place : ℕ → Values → Placed
place i row = record { index = i; row = row }

unfoldable pub placed_from : ℕ → List Values → List Placed
placed_from i [] = []
placed_from i (row ∷ table) = place i row ∷ placed_from (i + 1) table

abbrev pub placed : List Values → List Placed
placed table = placed_from 0 table

pub record IsPlaced (i : ℕ) (table : List Values) (p : Placed) : Type 0 where
  pub offset : ℕ
  pub index : p.index ≡ i + offset
  pub within : offset < length table
  pub row : p.row ≡ get_or table offset []

in_placed_from : (i : ℕ) (table : List Values) (p : Placed) → In p (placed_from i table) → IsPlaced i table p
unfolding placed_from
in_placed_from i [] p h = absurd h
in_placed_from i (row ∷ table) p (inl e) = record { offset = 0; index = ap (λ (q : Placed). q.index) e ∙ omega arith; within = omega arith; row = ap (λ (q : Placed). q.row) e }
in_placed_from i (row ∷ table) p (inr k) =
    let r = in_placed_from (i + 1) table p k in
    record { offset = suc r.offset; index = r.index ∙ omega arith; within = omega (arith, r.within); row = r.row }

pub in_placed : (table : List Values) (p : Placed) → In p (placed table) → (p.index < length table) × (p.row ≡ get_or table p.index [])
in_placed table p i =
    let r = in_placed_from 0 table p i in
    let at : p.index ≡ r.offset = r.index ∙ omega arith in
    (omega (arith, at, r.within), r.row ∙ ap (λ n. get_or table n []) (sym at))

apart_from : (i : ℕ) (table : List Values) → Pairwise (λ (p q : Placed). p.index ≢ q.index) (placed_from i table)
unfolding placed_from
apart_from i [] = tt
apart_from i (row ∷ table) = (
  all_of (λ (q : Placed). i ≢ q.index) (placed_from (i + 1) table) (λ q k e. let r = in_placed_from (i + 1) table q k in omega (arith, r.index)),
  apart_from (i + 1) table,
)

pub placed_apart : (table : List Values) → Pairwise (λ (p q : Placed). p.index ≢ q.index) (placed table)
placed_apart table = apart_from 0 table

rows_from_placed : (i : ℕ) (table : List Values) → map (λ (p : Placed). p.row) (placed_from i table) ≡ table
unfolding placed_from
rows_from_placed i [] = refl
rows_from_placed i (row ∷ table) = ap (λ l. row ∷ l) (rows_from_placed (i + 1) table)

pub placed_rows : (table : List Values) → map (λ (p : Placed). p.row) (placed table) ≡ table
placed_rows table = rows_from_placed 0 table

-- ---- the rows of level 0

-- the row of the level that a row of the table gives
abbrev pub level_row : ℕ → List ℕ → List ℕ → ℕ → Placed → Row
level_row e seed ks l p = record {
  index = p.index;
  parent = record { path = path_to ks l p.row; check = check_before e ks l p.row };
  frame = layer_report e seed ks l p.index p.row;
}

abbrev pub first_record : ℕ → List ℕ → List ℕ → Placed → Record
first_record e seed ks p = Whole (frame_of (layer_report e seed ks 0 p.index p.row))

own_report : (e : ℕ) (seed ks : List ℕ) (i : ℕ) (row : Values) → report (client_of One e seed i) row ks ≡ layer_report e seed ks 0 i row
unfolding layer_report check_before
own_report e seed ks i row = refl

-- the frame of a row's report is short
pub own_frame : (e : ℕ) (seed ks : List ℕ) (i : ℕ) (row : Values) → e < 2 ^ 32 → AreThresholds One ks → IsRowOf ks row → length (frame_of (report (client_of One e seed i) row ks)) ≤ MAX_FRAME_ONE
own_frame e seed ks i row low t g =
    let short : length (frame_of (layer_report e seed ks 0 i row)) ≤ MAX_FRAME_ONE = report_short e seed ks i 0 row low t g (omega (arith, t.some)) in
    subst (λ (r : Fields). length (frame_of r) ≤ MAX_FRAME_ONE) (sym (own_report e seed ks i row)) short

records_from : (e : ℕ) (seed ks : List ℕ) (f : ℕ → List ℕ) (i : ℕ) (table : List Values) → ((j : ℕ) → j < length table → f (i + j) ≡ frame_of (layer_report e seed ks 0 (i + j) (get_or table j []))) →
    whole (map f (range_with_len i (length table))) ≡ map (first_record e seed ks) (placed_from i table)
unfolding placed_from
records_from e seed ks f i [] h = refl
records_from e seed ks f i (row ∷ table) h =
    let here : f i ≡ frame_of (layer_report e seed ks 0 i row) = ap f (omega arith) ∙ h 0 (omega arith) ∙ ap (λ n. frame_of (layer_report e seed ks 0 n row)) (omega arith) in
    let rest : whole (map f (range_with_len (i + 1) (length table))) ≡ map (first_record e seed ks) (placed_from (i + 1) table) =
    records_from e seed ks f (i + 1) table (λ j lt. ap f (omega arith) ∙ h (suc j) (omega arith) ∙ ap (λ n. frame_of (layer_report e seed ks 0 n (get_or table j []))) (omega arith)) in
    λ n. Whole (here n) ∷ rest n

pub records_placed : (e : ℕ) (seed ks : List ℕ) (table : List Values) → table_records table ks e seed ≡ map (first_record e seed ks) (placed table)
records_placed e seed ks table =
    records_from e seed ks (row_frame table ks e seed) 0 table
    (λ j lt. ap (λ n. row_frame table ks e seed n) {x = 0 + j} {y = j} (omega arith) ∙ ap frame_of (own_report e seed ks j (get_or table j [])) ∙ ap (λ n. frame_of (layer_report e seed ks 0 n (get_or table j []))) {x = j} {y = 0 + j} (omega arith))

first_is : (e : ℕ) (seed ks : List ℕ) (p : Placed) → e < 2 ^ 32 → AreThresholds One ks → IsRowOf ks p.row → first_frame e (first_record e seed ks p) ≡ Ok (layer_report e seed ks 0 p.index p.row)
unfolding layer_report layer
first_is e seed ks p low t g =
    let r = layer_report e seed ks 0 p.index p.row in
    let good = report_good e seed ks p.index 0 p.row low t g (omega (arith, t.some)) in
    ap (frame_for e 0) (decoded-frame r (frame_of r) good.is_frame) ∙ right_frame e 0 r refl refl

-- with each row of the table a row of level 0, and no refusal
rows_level : (e : ℕ) (seed ks : List ℕ) (i : ℕ) (table : List Values) → e < 2 ^ 32 → AreThresholds One ks → IsTableOf ks table →
    some_of (numbered_from i (λ i r. row_of i (first_frame e r)) (map (first_record e seed ks) (placed_from i table))) ≡ map (level_row e seed ks 0) (placed_from i table)
unfolding placed_from path_to check_before
rows_level e seed ks i [] low t g = refl
rows_level e seed ks i (row ∷ table) low t g =
    ap (λ o. cons_option (row_of i o) (some_of (numbered_from (i + 1) (λ i r. row_of i (first_frame e r)) (map (first_record e seed ks) (placed_from (i + 1) table))))) (first_is e seed ks (place i row) low t (g 0 row (omega arith)))
    ∙ ap (λ l. level_row e seed ks 0 (place i row) ∷ l) (rows_level e seed ks (i + 1) table low t (λ k d lt. g (suc k) d (omega arith)))

refusals_level : (e : ℕ) (seed ks : List ℕ) (i : ℕ) (table : List Values) → e < 2 ^ 32 → AreThresholds One ks → IsTableOf ks table →
    some_of (numbered_from i (λ i r. outer_of i (first_frame e r)) (map (first_record e seed ks) (placed_from i table))) ≡ []
unfolding placed_from
refusals_level e seed ks i [] low t g = refl
refusals_level e seed ks i (row ∷ table) low t g =
    ap (λ o. cons_option (outer_of i o) (some_of (numbered_from (i + 1) (λ i r. outer_of i (first_frame e r)) (map (first_record e seed ks) (placed_from (i + 1) table))))) (first_is e seed ks (place i row) low t (g 0 row (omega arith)))
    ∙ refusals_level e seed ks (i + 1) table low t (λ k d lt. g (suc k) d (omega arith))

pub outer_placed : (e : ℕ) (seed ks : List ℕ) (table : List Values) → e < 2 ^ 32 → AreThresholds One ks → IsTableOf ks table → outer_rows e (table_records table ks e seed) ≡ map (level_row e seed ks 0) (placed table)
unfolding outer_rows
outer_placed e seed ks table low t g =
    ap (λ rs. some_of (numbered_from 0 (λ i r. row_of i (first_frame e r)) rs)) (records_placed e seed ks table) ∙ rows_level e seed ks 0 table low t g

pub no_outer_refusals : (e : ℕ) (seed ks : List ℕ) (table : List Values) → e < 2 ^ 32 → AreThresholds One ks → IsTableOf ks table → outer_refusals e (table_records table ks e seed) ≡ []
unfolding outer_refusals
no_outer_refusals e seed ks table low t g =
    ap (λ rs. some_of (numbered_from 0 (λ i r. outer_of i (first_frame e r)) rs)) (records_placed e seed ks table) ∙ refusals_level e seed ks 0 table low t g
