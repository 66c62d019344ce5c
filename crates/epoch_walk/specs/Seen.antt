-- What a walk over many epochs is seen as.
use Rattle.std.specs.Prelude.{ℕ, List}
use Rattle.layer_walk.specs.Seen.{WalkView}
use Rattle.epoch_walk.specs.declared.stray.Stray.{Stray}

-- the number of records taken, the walk of each epoch, and the strays
pub record EpochWalkView : Type 0 where
  pub taken : ℕ
  pub walks : List (ℕ × WalkView)
  pub strays : List Stray
