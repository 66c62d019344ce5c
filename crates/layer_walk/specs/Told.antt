-- What one level tells, in the words of the code.
use Rattle.std.specs.Prelude.{◌≡◌, ℕ, List, [], ◌∷◌, ◌++◌, length, map}
use Rattle.tag_groups.specs.GroupView.{GroupView}
use Rattle.star_lists.specs.Ascending.{in_order}
use Rattle.layer_walk.specs.declared.group.GroupOut.{GroupOut}
use Rattle.layer_walk.specs.declared.level.Level.{Level}
use Rattle.layer_walk.specs.declared.outcome.Outcome.{Outcome}
use Rattle.layer_walk.specs.declared.outcome.Outcome.TheVariants.{Opened, Few, NoLine, BadValue}
use Rattle.layer_walk.specs.declared.revealed.OpenedGroup.{OpenedGroup}
use Rattle.layer_walk.specs.declared.revealed.Revealed.{Revealed}
use Rattle.layer_walk.specs.declared.tell.Told.{Told}
use Rattle.layer_walk.specs.Levels.{opened_at, counts_at, refusals_at, aux_at}
use Rattle.layer_walk.specs.Made.{of_level, group_child}
use Rattle.layer_walk.specs.Reveal.{by_path, by_index, by_aux_index}

-- the group as it is told, where it comes out so
abbrev pub told_under : Level → GroupView → ℕ → Outcome → List OpenedGroup
told_under level group points (Opened value agree) =
    record { path = (group_child level group value).path; points = points; agree = agree; members = length group.members } ∷ []
told_under level group points Few = []
told_under level group points NoLine = []
told_under level group points BadValue = []

-- how the groups came out
abbrev pub outcomes_of : List GroupOut → List Outcome
outcomes_of outs = map (λ (o : GroupOut). o.outcome) outs

-- A level more is told.
pub record TellsLevel (level : Level) (old new : Told) : Type 0 where
  pub groups : new.groups.items ≡ old.groups.items ++ of_level level opened_at
  pub levels : new.levels ≡ old.levels ++ of_level level counts_at
  pub refusals : new.refusals.items ≡ old.refusals.items ++ of_level level refusals_at
  pub aux : new.aux.items ≡ old.aux.items ++ of_level level aux_at

-- what is told, in its order
abbrev pub revealed_of : ℕ → ℕ → Told → Revealed
revealed_of records rows told = record {
  records = records;
  rows = rows;
  groups = in_order by_path told.groups.items;
  levels = told.levels;
  refusals = in_order by_index told.refusals.items;
  aux = in_order by_aux_index told.aux.items;
}
