-- What opening a group of a level gives, in the words of the level.
use Rattle.std.specs.Prelude.{◌≡◌, ℕ, ◌<◌, ◌≤◌, ◌^◌, List, [], length, slice_index_or, Option, All}
use Rattle.std.specs.List.{filter_map}
use Rattle.report_frame.specs.declared.limits.TheConstants.{MAX_LEVEL_TWO}
use Rattle.shamir_limbs.specs.declared.share.Point.{Point}
use Rattle.adss_commit.specs.declared.context.Context.{Context}
use Rattle.adss_commit.specs.Derivation.{context_key}
use Rattle.tag_groups.specs.RowView.{RowView}
use Rattle.tag_groups.specs.GroupView.{GroupView}
use Rattle.tag_groups.specs.Laws.{rows_at}
use Rattle.tag_groups.specs.Left.{points_at, points_left_of}
use Rattle.layer_walk.specs.declared.auxiliary.Aux.{Aux}
use Rattle.layer_walk.specs.declared.group.GroupOut.{GroupOut}
use Rattle.layer_walk.specs.declared.keys.Keys.{Keys}
use Rattle.layer_walk.specs.declared.level.Level.{Level}
use Rattle.layer_walk.specs.declared.level.Parent.{Parent}
use Rattle.layer_walk.specs.declared.outcome.Outcome.{Outcome}
use Rattle.layer_walk.specs.declared.outcome.Outcome.TheVariants.{Opened, Few, NoLine, BadValue}
use Rattle.layer_walk.specs.declared.refusal.Refusal.{Refusal}
use Rattle.layer_walk.specs.Seen.{InnerView}
use Rattle.layer_walk.specs.Bodies.{inner_in, refusal_in, aux_in}
use Rattle.layer_walk.specs.Members.{keys_of, next_with}
use Rattle.layer_walk.specs.Outcomes.{outcome_of}
use Rattle.layer_walk.specs.Reveal.{no_parent}

-- the parent of this number
abbrev pub parent_at : List Parent → ℕ → Parent
parent_at parents i = slice_index_or parents i no_parent

-- the group's parent and members are there
pub record FitsLevel (level : Level) (group : GroupView) : Type 0 where
  pub parent : group.parent < length level.parents
  pub members : All (λ place. place < length level.rows) group.members
  pub few : length group.members < 2 ^ 32
  pub number : level.number ≤ MAX_LEVEL_TWO

-- the rows of the group
abbrev pub group_members : Level → GroupView → List RowView
group_members level group = rows_at level.rows group.members

-- the points left of the group
abbrev pub group_points : Level → GroupView → List Point
group_points level group = points_left_of (points_at level.rows group.members)

-- the check of the group's parent
abbrev pub group_check : Level → GroupView → List ℕ
group_check level group = (parent_at level.parents group.parent).check

-- the outcome of the group
abbrev pub group_outcome : Level → GroupView → Outcome
group_outcome level group = outcome_of level.epoch level.number (group_check level group) group.head (group_points level group)

-- the context of the group, where it has this value
abbrev pub group_context : Level → GroupView → List ℕ → Context
group_context level group value =
    record {
      version = group.head.version;
      parent = group_check level group;
      epoch = level.epoch;
      level = level.number;
      k = group.head.k;
      value = value;
    }

-- the keys of the group, where it has this value
abbrev pub group_keys : Level → GroupView → List ℕ → Keys
group_keys level group value = keys_of group.head.version level.epoch level.number (context_key (group_context level group value))

-- what there is for the group's value, where the group is opened
abbrev pub of_opened : {X : Type 0} → (List ℕ → List X) → Outcome → List X
of_opened f (Opened value agree) = f value
of_opened f Few = []
of_opened f NoLine = []
of_opened f BadValue = []

-- what a member holds, in a group of these keys: the report of the next level, a refusal, or extra bytes
abbrev pub inner_under : Keys → RowView → Option InnerView
inner_under keys row = inner_in row.index (next_with keys row.report)

abbrev pub refusal_under : Keys → RowView → Option Refusal
refusal_under keys row = refusal_in keys.level row.index (next_with keys row.report)

abbrev pub aux_under : Keys → RowView → Option Aux
aux_under keys row = aux_in keys.level row.index (next_with keys row.report)

-- f of the keys and of each member, where the group is opened
abbrev pub of_group : {X : Type 0} → (Keys → RowView → Option X) → Level → GroupView → List X
of_group f level group =
    of_opened (λ value. filter_map (f (group_keys level group value)) (group_members level group)) (group_outcome level group)

-- what opening a group gives
pub record IsOut (level : Level) (group : GroupView) (out : GroupOut) : Type 0 where
  pub outcome : out.outcome ≡ group_outcome level group
  pub points : out.points ≡ length (group_points level group)
  pub inner : out.inner ≡ of_group inner_under level group
  pub refusals : out.refusals ≡ of_group refusal_under level group
  pub aux : out.aux ≡ of_group aux_under level group
