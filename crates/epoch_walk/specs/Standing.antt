-- The lists of records that a walk over many epochs represents.
use Rattle.std.specs.Prelude.{◌≡◌, ◌^◌, ℕ, ◌<◌, List, Option, None, Some, [], length, All}
use Rattle.std.specs.Map.{keys_of}
use Rattle.star_io.specs.declared.record.Record.{Record}
use Rattle.layer_walk.specs.Seen.{WalkView}
use Rattle.layer_walk.specs.Standing as one
use Rattle.epoch_walk.specs.Seen.{EpochWalkView}
use Rattle.epoch_walk.specs.Parts.{part, epochs}
use Rattle.epoch_walk.specs.Epochs.{strays}

-- the walk is one of its epoch, and represents the records of that epoch
pub record StandsForPart (records : List Record) (entry : ℕ × WalkView) : Type 0 where
  pub epoch : entry.1.epoch ≡ entry.0
  pub stands : one.StandsFor entry.1 (part records entry.0)

-- The walk took as many records, has a walk for each of their epochs in ascending order, and the records of no epoch.
pub record StandsFor (walk : EpochWalkView) (records : List Record) : Type 0 where
  pub taken : walk.taken ≡ length records
  pub epochs_are : keys_of walk.walks ≡ epochs records
  pub walks_are : All (StandsForPart records) walk.walks
  pub strays_are : walk.strays ≡ strays records

-- The walk represents some records, and no more than its number counts.
pub record IsEpochWalk (walk : EpochWalkView) : Type 0 where
  pub records : List Record
  pub stands : StandsFor walk records
  pub few : walk.taken < 2 ^ 32

-- What is at an epoch: no walk, if it has no records, or its walk, which represents them.
abbrev pub StandsAt : ℕ → Option WalkView → List Record → Type 0
StandsAt e None records = records ≡ []
StandsAt e (Some walk) records = (walk.epoch ≡ e) × (0 < length records) × one.StandsFor walk records
