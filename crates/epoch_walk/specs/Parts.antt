-- The epochs of records, and the records of an epoch.
use Rattle.std.specs.Prelude.{ℕ, Bool, false, ◌==◌, List, filter, Result, Ok, Err, if◌then◌else◌}
use Rattle.std.specs.List.{filter_map}
use Rattle.std.specs.Ordering.{nat_cmp}
use Rattle.std.specs.Result.{result_ok}
use Rattle.star_io.specs.declared.record.Record.{Record}
use Rattle.star_io.specs.declared.record.Record.TheVariants.{Whole, TooLong, CutLength, CutRecord}
use Rattle.report_frame.specs.declared.fault.Fault.{Fault}
use Rattle.report_frame.specs.declared.fault.FaultKind.TheVariants.{TooLong as TooLongFrame}
use Rattle.report_frame.specs.Frame.{Fields}
use Rattle.report_frame.specs.Reading.{decoded}
use Rattle.star_lists.specs.Ascending.{ascending}
use Rattle.layer_walk.specs.declared.refusal.Why.{Why}
use Rattle.layer_walk.specs.declared.refusal.Why.TheVariants.{Frame, WrongLevel, CutLength as CutLengthWhy, CutRecord as CutRecordWhy}

-- the epoch of a frame of level 0, or why it is none
abbrev pub epoch_of_frame : Result Fields Fault → Result ℕ Why
epoch_of_frame (Err fault) = Err (Frame fault.kind)
epoch_of_frame (Ok frame) = if frame.level == 0 then Ok frame.epoch else Err WrongLevel

-- the epoch of the frame of level 0 that the record is, or why it is a stray
abbrev pub epoch_of : Record → Result ℕ Why
epoch_of (Whole body) = epoch_of_frame (decoded body)
epoch_of (TooLong said) = Err (Frame TooLongFrame)
epoch_of (CutLength have) = Err CutLengthWhy
epoch_of (CutRecord said have) = Err CutRecordWhy

-- the epoch that was found is this one
abbrev pub is_epoch : ℕ → Result ℕ Why → Bool
is_epoch e (Ok found) = found == e
is_epoch e (Err why) = false

-- the records that are frames of level 0 and this epoch, in order
abbrev pub part : List Record → ℕ → List Record
part records e = filter (λ item. is_epoch e (epoch_of item)) records

-- the epochs of the records, each once, in ascending order
abbrev pub epochs : List Record → List ℕ
epochs records = ascending nat_cmp (filter_map (λ item. result_ok (epoch_of item)) records)
