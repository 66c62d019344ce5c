-- The rows of level 0 and the refusals of the other records.
use Rattle.std.proofs.Common.{◌≡◌, ℕ, suc, ◌+◌, ◌<◌, ◌≤◌, List, [], ◌∷◌, ◌++◌, Option, Result, Ok, Err, length, take, map, refl, sym, ap, ◌∙◌, subst, arith, length-append, append-nil}
use Rattle.std.specs.Prelude.{◌^◌}
use Rattle.std.specs.List.{cons_option}
use Rattle.std.specs.List.Sorted.{IsStrictlySortedBy}
use Rattle.std.proofs.lemmas.List.{length-map, map-append}
use Rattle.std.proofs.lemmas.List.Elements.{All-from_recursion, All-map}
use Rattle.star_io.specs.declared.record.Record.{Record}
use Rattle.report_frame.specs.Frame.{Fields}
use Rattle.star_lists.specs.Numbered.{numbered_from}
use Rattle.star_lists.proofs.Elements.{filter_map_fewer}
use Rattle.star_lists.proofs.Numbered.{given_push}
use Rattle.tag_groups.specs.RowView.{RowView}
use Rattle.layer_walk.specs.declared.level.Parent.{Parent}
use Rattle.layer_walk.specs.declared.refusal.Why.{Why}
use Rattle.layer_walk.specs.declared.refusal.Stage.TheVariants.{Outer}
use Rattle.layer_walk.specs.Rows.{Row}
use Rattle.layer_walk.specs.Seen.{WalkView}
use Rattle.layer_walk.specs.Laws.{by_number}
use Rattle.layer_walk.specs.Levels.{rows_from}
use Rattle.layer_walk.specs.Made.{named_row, named, IsLevel}
use Rattle.layer_walk.specs.Outer.{first_row}
use Rattle.layer_walk.specs.Reveal.{first_frame, no_parent, row_of, outer_of, outer_rows, outer_refusals, some_of}
use Rattle.layer_walk.proofs.RefusedOnce.{levels_rise}
use Rattle.layer_walk.specs.Standing.{outermost, StandsFor, level_zero_of}

-- ---- one more record

rows_push : (e : ℕ) (records : List Record) (item : Record) → outer_rows e (records ++ item ∷ []) ≡ outer_rows e records ++ cons_option (row_of (length records) (first_frame e item)) []
unfolding outer_rows
rows_push e records item = given_push (λ i r. row_of i (first_frame e r)) records item

refusals_push : (e : ℕ) (records : List Record) (item : Record) → outer_refusals e (records ++ item ∷ []) ≡ outer_refusals e records ++ cons_option (outer_of (length records) (first_frame e item)) []
unfolding outer_refusals
refusals_push e records item = given_push (λ i r. outer_of i (first_frame e r)) records item

-- the row or the refusal of one record
row_alone : (i : ℕ) (f : Result Fields Why) (row : RowView) → first_row i f ≡ Ok row → (map outermost (cons_option (row_of i f) []) ≡ row ∷ []) × (cons_option (outer_of i f) [] ≡ [])
row_alone i (Ok frame) row is = (ap (λ r. r ∷ []) (let same : record { index = i; parent = 0; report = frame } ≡ row = cc in same), refl)
row_alone i (Err why) row is = absurd (cc)

refusal_alone : (i : ℕ) (f : Result Fields Why) (why : Why) → first_row i f ≡ Err why → (map outermost (cons_option (row_of i f) []) ≡ []) × (cons_option (outer_of i f) [] ≡ record { index = i; stage = Outer; why = why } ∷ [])
refusal_alone i (Ok frame) why is = absurd (cc)
refusal_alone i (Err other) why is = (refl, ap (λ w. record { index = i; stage = Outer; why = w } ∷ []) (let same : other ≡ why = cc in same))

views_push : (e : ℕ) (records : List Record) (item : Record) (more : List RowView) → map outermost (cons_option (row_of (length records) (first_frame e item)) []) ≡ more → map outermost (outer_rows e (records ++ item ∷ [])) ≡ map outermost (outer_rows e records) ++ more
views_push e records item more is =
    ap (map outermost) (rows_push e records item)
    ∙ map-append outermost (outer_rows e records) (cons_option (row_of (length records) (first_frame e item)) [])
    ∙ ap (λ l. map outermost (outer_rows e records) ++ l) is

-- a record that is a row
pub views_row : (e : ℕ) (records more : List Record) (item : Record) (row : RowView) (i : ℕ) → i ≡ length records → more ≡ records ++ item ∷ [] → first_row i (first_frame e item) ≡ Ok row → map outermost (outer_rows e more) ≡ map outermost (outer_rows e records) ++ row ∷ []
views_row e records more item row i at grown is =
    let f = first_frame e item in
    ap (λ l. map outermost (outer_rows e l)) grown ∙ views_push e records item (row ∷ []) (row_alone (length records) f row (ap (λ n. first_row n f) (sym at) ∙ is)).0

no_row : (i : ℕ) (f : Result Fields Why) → ((row : RowView) → first_row i f ≡ Ok row → ⊥) → map outermost (cons_option (row_of i f) []) ≡ []
no_row i (Ok frame) none = absurd (none (record { index = i; parent = 0; report = frame }) refl)
no_row i (Err why) none = refl

-- a record that is none
pub views_other : (e : ℕ) (records more : List Record) (item : Record) (i : ℕ) → i ≡ length records → more ≡ records ++ item ∷ [] → ((row : RowView) → first_row i (first_frame e item) ≡ Ok row → ⊥) → map outermost (outer_rows e more) ≡ map outermost (outer_rows e records)
views_other e records more item i at grown none =
    let f = first_frame e item in
    ap (λ l. map outermost (outer_rows e l)) grown
    ∙ views_push e records item [] (no_row (length records) f (λ row is. none row (ap (λ n. first_row n f) at ∙ is)))
    ∙ append-nil (map outermost (outer_rows e records))

-- a walk that takes a record as a row
pub takes_row : (old new : WalkView) (item : Record) (row : RowView) → first_row old.taken (first_frame old.epoch item) ≡ Ok row → new ≡ record { epoch = old.epoch; taken = old.taken + 1; rows = old.rows ++ row ∷ []; refusals = old.refusals } → (records : List Record) → StandsFor old records → StandsFor new (records ++ item ∷ [])
takes_row old new item row is e records stands =
    let f = first_frame old.epoch item in
    let alone = row_alone (length records) f row (ap (λ n. first_row n f) (sym stands.taken) ∙ is) in
    subst (λ w. StandsFor w (records ++ item ∷ [])) (sym e) (record {
      taken = omega (arith, stands.taken, length-append records (item ∷ []));
      rows = ap (λ l. l ++ row ∷ []) stands.rows ∙ sym (views_push old.epoch records item (row ∷ []) alone.0);
      refusals = stands.refusals ∙ sym (refusals_push old.epoch records item ∙ ap (λ l. outer_refusals old.epoch records ++ l) alone.1 ∙ append-nil (outer_refusals old.epoch records));
    })

-- a walk that refuses a record
pub takes_refused : (old new : WalkView) (item : Record) (why : Why) → first_row old.taken (first_frame old.epoch item) ≡ Err why → new ≡ record { epoch = old.epoch; taken = old.taken + 1; rows = old.rows; refusals = old.refusals ++ record { index = old.taken; stage = Outer; why = why } ∷ [] } → (records : List Record) → StandsFor old records → StandsFor new (records ++ item ∷ [])
takes_refused old new item why is e records stands =
    let f = first_frame old.epoch item in
    let alone = refusal_alone (length records) f why (ap (λ n. first_row n f) (sym stands.taken) ∙ is) in
    subst (λ w. StandsFor w (records ++ item ∷ [])) (sym e) (record {
      taken = omega (arith, stands.taken, length-append records (item ∷ []));
      rows = stands.rows ∙ sym (views_push old.epoch records item [] alone.0 ∙ append-nil (map outermost (outer_rows old.epoch records)));
      refusals =
          (λ i. stands.refusals i ++ record { index = stands.taken i; stage = Outer; why = why } ∷ [])
          ∙ sym (refusals_push old.epoch records item ∙ ap (λ l. outer_refusals old.epoch records ++ l) alone.1);
    })

-- these records were taken for this epoch
pub record IsTaken (e : ℕ) (records : List Record) (walk : WalkView) : Type 0 where
  pub epoch : walk.epoch ≡ e
  pub stands : StandsFor walk records

-- ---- no record

pub stands_empty : (walk : WalkView) → walk.taken ≡ 0 → walk.rows ≡ [] → walk.refusals ≡ [] → StandsFor walk []
unfolding outer_rows outer_refusals
stands_empty walk taken rows refusals = record { taken = taken; rows = rows; refusals = refusals }

pub views_none : (e : ℕ) (records : List Record) → map outermost (outer_rows e (take 0 records)) ≡ []
unfolding outer_rows
views_none e [] = refl
views_none e (r ∷ rs) = refl

-- ---- level 0

length-numbered_from : {X Y : Type 0} (i : ℕ) (f : ℕ → X → Y) (xs : List X) → length (numbered_from i f xs) ≡ length xs
length-numbered_from i f [] = refl
length-numbered_from i f (x ∷ xs) = ap suc (length-numbered_from (i + 1) f xs)

pub few_rows : (e : ℕ) (records : List Record) → length (outer_rows e records) ≤ length records
unfolding outer_rows
few_rows e records =
    let f : ℕ → Record → Option Row = λ i r. row_of i (first_frame e r) in
    omega (arith, filter_map_fewer (λ (o : Option Row). o) (numbered_from 0 f records), length-numbered_from 0 f records)

pub few_views : (walk : WalkView) (records : List Record) → StandsFor walk records → length walk.rows ≤ walk.taken
few_views walk records stands = omega (arith, ap length stands.rows, length-map (outer_rows walk.epoch records) outermost, few_rows walk.epoch records, stands.taken)

rows_named : (e i : ℕ) (records : List Record) → map (named_row (no_parent ∷ [])) (map outermost (some_of (numbered_from i (λ i r. row_of i (first_frame e r)) records))) ≡ some_of (numbered_from i (λ i r. row_of i (first_frame e r)) records)
rows_named e i [] = refl
rows_named e i (r ∷ rs) =
    let rest = rows_named e (i + 1) rs in
    let later = some_of (numbered_from (i + 1) (λ i r. row_of i (first_frame e r)) rs) in
    elim (first_frame e r) as (λ f. map (named_row (no_parent ∷ [])) (map outermost (cons_option (row_of i f) later)) ≡ cons_option (row_of i f) later) [
      | Ok frame ↦ ap (λ l. record { index = i; parent = no_parent; frame = frame } ∷ l) rest
      | Err why ↦ rest
    ]

-- level 0 stands for its rows
pub zero_named : (e : ℕ) (records : List Record) → named (level_zero_of e records) ≡ outer_rows e records
unfolding outer_rows
zero_named e records = rows_named e 0 records

pub zero_good : (e : ℕ) (records : List Record) → length records < 2 ^ 32 → IsLevel (level_zero_of e records)
unfolding rows_from
zero_good e records small = record {
  parents = All-map (λ (r : RowView). r.parent < 1) outermost (outer_rows e records) (λ k d lt. omega arith);
  depth = All-from_recursion (λ (p : Parent). length p.path ≡ 0) (no_parent ∷ []) (refl, tt);
  distinct = λ i j d lt inside. absurd (omega arith);
  ascending = subst (IsStrictlySortedBy by_number) (sym (zero_named e records)) (levels_rise e records 0);
  few = omega (arith, length-map (outer_rows e records) outermost, few_rows e records);
}
