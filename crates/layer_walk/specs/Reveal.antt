-- The reveal of a list of records for an epoch.
use Rattle.std.specs.Prelude.{ℕ, List, [], ◌++◌, length, replicate, Option, Some, None, Result, Ok, Err}
use Rattle.std.specs.List.{filter_map}
use Rattle.std.specs.Ordering.{nat_cmp, ordering_then}
use Rattle.std.specs.Cmp.Lexicographic.{slice_cmp}
use Rattle.std.specs.declared.cmp.Ordering.{Ordering}
use Rattle.star_io.specs.declared.record.Record.{Record}
use Rattle.star_io.specs.declared.record.Record.TheVariants.{Whole, TooLong, CutLength, CutRecord}
use Rattle.report_frame.specs.declared.fault.FaultKind.TheVariants.{TooLong as TooLongFrame}
use Rattle.report_frame.specs.declared.limits.TheConstants.{MAX_LAYERS, CHECK_BYTES}
use Rattle.report_frame.specs.Versions.{version_number}
use Rattle.report_frame.specs.Frame.{Fields}
use Rattle.report_frame.specs.Reading.{decoded}
use Rattle.layer_walk.specs.declared.auxiliary.Aux.{Aux}
use Rattle.layer_walk.specs.declared.refusal.Refusal.{Refusal}
use Rattle.layer_walk.specs.declared.refusal.Stage.TheVariants.{Outer}
use Rattle.layer_walk.specs.declared.refusal.Why.{Why}
use Rattle.layer_walk.specs.declared.refusal.Why.TheVariants.{Frame, CutLength as CutLengthWhy, CutRecord as CutRecordWhy}
use Rattle.layer_walk.specs.declared.path.Step.{Step}
use Rattle.layer_walk.specs.declared.level.Parent.{Parent}
use Rattle.layer_walk.specs.declared.revealed.OpenedGroup.{OpenedGroup}
use Rattle.layer_walk.specs.declared.revealed.LevelCount.{LevelCount}
use Rattle.layer_walk.specs.declared.revealed.Revealed.{Revealed}
use Rattle.star_lists.specs.Ascending.{in_order}
use Rattle.star_lists.specs.Numbered.{numbered_from, joined_below}
use Rattle.layer_walk.specs.Rows.{Row}
use Rattle.layer_walk.specs.Members.{frame_for}
use Rattle.layer_walk.specs.Levels.{rows_from, opened_at, counts_at, refusals_at, aux_at}

-- the frame of the epoch and level 0 that the record is, or why it is refused
abbrev pub first_frame : ℕ → Record → Result Fields Why
first_frame e (Whole body) = frame_for e 0 (decoded body)
first_frame e (TooLong said) = Err (Frame TooLongFrame)
first_frame e (CutLength have) = Err CutLengthWhy
first_frame e (CutRecord said have) = Err CutRecordWhy

-- the parent at level 0
abbrev pub no_parent : Parent
no_parent = record { path = []; check = replicate CHECK_BYTES 0 }

-- the row of record i, if it is one
abbrev pub row_of : ℕ → Result Fields Why → Option Row
row_of i (Ok frame) = Some (record { index = i; parent = no_parent; frame = frame })
row_of i (Err why) = None

-- the refusal of record i, if it is no row
abbrev pub outer_of : ℕ → Result Fields Why → Option Refusal
outer_of i (Ok frame) = None
outer_of i (Err why) = Some (record { index = i; stage = Outer; why = why })

-- the values that are there
abbrev pub some_of : {X : Type 0} → List (Option X) → List X
some_of options = filter_map (λ o. o) options

-- the rows of level 0
unfoldable pub outer_rows : ℕ → List Record → List Row
outer_rows e records = some_of (numbered_from 0 (λ i r. row_of i (first_frame e r)) records)

-- the refusals of the other records, in their order
unfoldable pub outer_refusals : ℕ → List Record → List Refusal
outer_refusals e records = some_of (numbered_from 0 (λ i r. outer_of i (first_frame e r)) records)

-- by value, then by threshold, and then by version
abbrev pub step_cmp : Step → Step → Ordering
step_cmp a b =
    ordering_then (slice_cmp nat_cmp a.value b.value)
    (ordering_then (nat_cmp a.k b.k) (nat_cmp (version_number a.version) (version_number b.version)))

-- step by step, a proper prefix first
abbrev pub by_path : OpenedGroup → OpenedGroup → Ordering
by_path a b = slice_cmp step_cmp a.path b.path

-- refusals by the number of their record
abbrev pub by_index : Refusal → Refusal → Ordering
by_index a b = nat_cmp a.index b.index

-- extra bytes by the number of their record
abbrev pub by_aux_index : Aux → Aux → Ordering
by_aux_index a b = nat_cmp a.index b.index

-- how many levels there are, as many as a report has layers
abbrev pub level_count : ℕ
level_count = MAX_LAYERS

-- the opened groups of the levels below n
unfoldable pub groups_told : ℕ → List Row → ℕ → List OpenedGroup
groups_told e rows n = joined_below (λ l. opened_at e l (rows_from e rows l)) n

-- the refusals of the levels below n
unfoldable pub refusals_told : ℕ → List Row → ℕ → List Refusal
refusals_told e rows n = joined_below (λ l. refusals_at e l (rows_from e rows l)) n

-- the extra bytes of the levels below n
unfoldable pub aux_told : ℕ → List Row → ℕ → List Aux
aux_told e rows n = joined_below (λ l. aux_at e l (rows_from e rows l)) n

-- the counts of the levels below n
unfoldable pub levels_told : ℕ → List Row → ℕ → List LevelCount
levels_told e rows n = joined_below (λ l. counts_at e l (rows_from e rows l)) n

-- what the records tell for the epoch
unfoldable pub reveal_of : ℕ → List Record → Revealed
reveal_of e records =
    let rows = outer_rows e records in
    record {
      records = length records;
      rows = length rows;
      groups = in_order by_path (groups_told e rows level_count);
      levels = levels_told e rows level_count;
      refusals = in_order by_index (outer_refusals e records ++ refusals_told e rows level_count);
      aux = in_order by_aux_index (aux_told e rows level_count);
    }
