-- What an inner report and a walk are seen as.
use Rattle.std.specs.Prelude.{ℕ, List}
use Rattle.report_frame.specs.Frame.{Fields}
use Rattle.tag_groups.specs.RowView.{RowView}
use Rattle.layer_walk.specs.declared.refusal.Refusal.{Refusal}

-- the number of its record, and its frame
pub record InnerView : Type 0 where
  pub index : ℕ
  pub frame : Fields

-- the epoch, the number of records taken, the rows of level 0, and the refusals of the other records
pub record WalkView : Type 0 where
  pub epoch : ℕ
  pub taken : ℕ
  pub rows : List RowView
  pub refusals : List Refusal
