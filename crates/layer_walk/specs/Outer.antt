-- A record as a row of the code at level 0.
use Rattle.std.specs.Prelude.{ℕ, Result, Ok, Err}
use Rattle.report_frame.specs.Frame.{Fields}
use Rattle.tag_groups.specs.RowView.{RowView}
use Rattle.layer_walk.specs.declared.refusal.Why.{Why}

-- the row of record i, or why it is refused
abbrev pub first_row : ℕ → Result Fields Why → Result RowView Why
first_row i (Ok frame) = Ok (record { index = i; parent = 0; report = frame })
first_row i (Err why) = Err why
