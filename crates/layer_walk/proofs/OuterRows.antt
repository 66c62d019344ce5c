-- The rows and the refusals that records give: one more record, and where a row of level 0 comes from.
use Rattle.std.proofs.Common.{◌≡◌, ℕ, List, [], ◌∷◌, ◌++◌, Option, Some, None, Result, Ok, Err, refl, sym, ap, ◌∙◌, length}
use Rattle.std.specs.List.{cons_option}
use Rattle.std.proofs.lemmas.Option.{same_Some, none-some}
use Rattle.star_io.specs.declared.record.Record.{Record}
use Rattle.report_frame.specs.Frame.{Fields}
use Rattle.star_lists.specs.Numbered.{numbered_from}
use Rattle.star_lists.proofs.Elements.{In}
use Rattle.star_lists.proofs.Numbered.{given_push}
use Rattle.star_lists.proofs.Inside.{from_filter_map, from_numbered}
use Rattle.layer_walk.specs.declared.refusal.Refusal.{Refusal}
use Rattle.layer_walk.specs.declared.refusal.Stage.TheVariants.{Outer}
use Rattle.layer_walk.specs.declared.refusal.Why.{Why}
use Rattle.layer_walk.specs.Rows.{Row}
use Rattle.layer_walk.specs.Reveal.{first_frame, no_parent, row_of, outer_of, some_of, outer_rows, outer_refusals}
use Rattle.layer_walk.specs.Laws.{one_or_none}

-- what record i gives as a row, and as a refusal
abbrev pub numbered_row : ℕ → ℕ → Record → Option Row
numbered_row e i r = row_of i (first_frame e r)

abbrev pub numbered_refusal : ℕ → ℕ → Record → Option Refusal
numbered_refusal e i r = outer_of i (first_frame e r)

-- ---- one more record

as_list : {X : Type 0} (o : Option X) → cons_option o [] ≡ one_or_none o
as_list None = refl
as_list (Some x) = refl

-- what is there, where one more item has the next number
some_more : {X Y : Type 0} (f : ℕ → X → Option Y) (xs : List X) (x : X) → some_of (numbered_from 0 f (xs ++ x ∷ [])) ≡ some_of (numbered_from 0 f xs) ++ one_or_none (f (length xs) x)
some_more f xs x = given_push f xs x ∙ ap (λ l. some_of (numbered_from 0 f xs) ++ l) (as_list (f (length xs) x))

pub rows_more : (e : ℕ) (records : List Record) (r : Record) → outer_rows e (records ++ r ∷ []) ≡ outer_rows e records ++ one_or_none (row_of (length records) (first_frame e r))
unfolding outer_rows
rows_more e records r = some_more (numbered_row e) records r

pub refusals_more : (e : ℕ) (records : List Record) (r : Record) → outer_refusals e (records ++ r ∷ []) ≡ outer_refusals e records ++ one_or_none (outer_of (length records) (first_frame e r))
unfolding outer_refusals
refusals_more e records r = some_more (numbered_refusal e) records r

-- ---- where they come from

-- what a row tells of its record's frame
pub record RowOf (i : ℕ) (o : Result Fields Why) (row : Row) : Type 0 where
  pub frame : o ≡ Ok row.frame
  pub parent : row.parent ≡ no_parent
  pub index : row.index ≡ i

pub from_row : (i : ℕ) (o : Result Fields Why) (row : Row) → row_of i o ≡ Some row → RowOf i o row
from_row i (Ok frame) row h =
    let it = same_Some (let r : Row = record { index = i; parent = no_parent; frame = frame } in r) row h in
    record { frame = ap (λ (r : Row). Ok r.frame) it; parent = sym (ap (λ (r : Row). r.parent) it); index = sym (ap (λ (r : Row). r.index) it) }
from_row i (Err why) row h = absurd (none-some row h)

-- what a refusal tells of its record
pub record RefusalOf (i : ℕ) (o : Result Fields Why) (a : Refusal) : Type 0 where
  pub why : o ≡ Err a.why
  pub index : a.index ≡ i

pub from_refusal : (i : ℕ) (o : Result Fields Why) (a : Refusal) → outer_of i o ≡ Some a → RefusalOf i o a
from_refusal i (Ok frame) a h = absurd (none-some a h)
from_refusal i (Err why) a h =
    let it = same_Some (let r : Refusal = record { index = i; stage = Outer; why = why } in r) a h in
    record { why = ap (λ (r : Refusal). Err r.why) it; index = sym (ap (λ (r : Refusal). r.index) it) }

-- what a row of level 0 comes from
pub record OuterRow (e : ℕ) (records : List Record) (row : Row) : Type 0 where
  pub source : Record
  pub inside : In source records
  pub frame : first_frame e source ≡ Ok row.frame
  pub parent : row.parent ≡ no_parent

pub outer_row : (e : ℕ) (records : List Record) (row : Row) → In row (outer_rows e records) → OuterRow e records row
unfolding outer_rows
outer_row e records row i =
    let option = from_filter_map (λ o. o) (numbered_from 0 (numbered_row e) records) row i in
    let item = from_numbered 0 (numbered_row e) records option.0 option.1 in
    let of = from_row item.0 (first_frame e item.1) row (item.3 ∙ option.2) in
    record { source = item.1; inside = item.2; frame = of.frame; parent = of.parent }
