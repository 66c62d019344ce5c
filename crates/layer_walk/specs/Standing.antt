-- The list of records that a walk stands for, and the level with which it begins.
use Rattle.std.specs.Prelude.{◌≡◌, ◌<◌, ◌^◌, ℕ, List, [], ◌∷◌, length, map}
use Rattle.star_io.specs.declared.record.Record.{Record}
use Rattle.tag_groups.specs.RowView.{RowView}
use Rattle.layer_walk.specs.declared.level.Level.{Level}
use Rattle.layer_walk.specs.Seen.{WalkView}
use Rattle.layer_walk.specs.Rows.{Row}
use Rattle.layer_walk.specs.Reveal.{no_parent, outer_rows, outer_refusals}

-- a row of level 0 as a row of the code: its parent has the number 0
abbrev pub outermost : Row → RowView
outermost row = record { index = row.index; parent = 0; report = row.frame }

-- The walk stands for these records: it took as many, and has the rows and the refusals that they give for its epoch.
pub record StandsFor (walk : WalkView) (records : List Record) : Type 0 where
  pub taken : walk.taken ≡ length records
  pub rows : walk.rows ≡ map outermost (outer_rows walk.epoch records)
  pub refusals : walk.refusals ≡ outer_refusals walk.epoch records

-- level 0 of the records, whose one parent has no step and a check of zeros
abbrev pub level_zero_of : ℕ → List Record → Level
level_zero_of e records = record { number = 0; epoch = e; parents = no_parent ∷ []; rows = map outermost (outer_rows e records) }

-- A walk stands for some records, and for no more than its number counts.
pub record IsWalk (walk : WalkView) : Type 0 where
  pub records : List Record
  pub stands : StandsFor walk records
  pub few : walk.taken < 2 ^ 32
