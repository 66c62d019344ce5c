-- From level to level, and what a level tells.
use Rattle.std.specs.Prelude.{ℕ, zero, suc, Bool, true, false, List, [], ◌∷◌, ◌++◌, length, map, filter, Option, Some, None}
use Rattle.std.specs.List.{filter_map, flat_map}
use Rattle.std.specs.Option.{option_map}
use Rattle.layer_walk.specs.declared.outcome.Outcome.{Outcome}
use Rattle.layer_walk.specs.declared.outcome.Outcome.TheVariants.{Opened, Few, NoLine, BadValue}
use Rattle.layer_walk.specs.declared.auxiliary.Aux.{Aux}
use Rattle.layer_walk.specs.declared.refusal.Refusal.{Refusal}
use Rattle.layer_walk.specs.declared.path.Step.{Step}
use Rattle.layer_walk.specs.declared.level.Parent.{Parent}
use Rattle.layer_walk.specs.declared.revealed.OpenedGroup.{OpenedGroup}
use Rattle.layer_walk.specs.declared.revealed.LevelCount.{LevelCount}
use Rattle.layer_walk.specs.Rows.{Row, members, first_members, points_left}
use Rattle.layer_walk.specs.Outcomes.{outcome_at}
use Rattle.layer_walk.specs.Members.{Next, next_at}
use Rattle.layer_walk.specs.Seen.{InnerView}
use Rattle.layer_walk.specs.Bodies.{inner_in, refusal_in, aux_in}

-- the path of the row's group, where it has this value
abbrev pub path_with : Row → List ℕ → List Step
path_with row value = row.parent.path ++ record { value = value; k = row.frame.k; version = row.frame.version } ∷ []

-- the row's group as a parent
abbrev pub child_of : Row → List ℕ → Parent
child_of row value = record { path = path_with row value; check = row.frame.check }

-- f of the group's value and of how many points agree, where the group is opened
abbrev pub where_opened : {X : Type 0} → (List ℕ → ℕ → Option X) → Outcome → Option X
where_opened f (Opened value agree) = f value agree
where_opened f Few = None
where_opened f NoLine = None
where_opened f BadValue = None

-- the row of an inner report under this parent
abbrev pub under : Parent → InnerView → Row
under parent inner = record { index = inner.index; parent = parent; frame = inner.frame }

-- the row of the next level that is in what a row holds
abbrev pub stepped : Row → List ℕ → Next → Option Row
stepped row value next = option_map (under (child_of row value)) (inner_in row.index next)

-- the row of the next level that the row holds
abbrev pub next_row : ℕ → ℕ → List Row → Row → Option Row
next_row e l rows row = where_opened (λ value agree. stepped row value (next_at e l row value)) (outcome_at e l rows row)

-- the rows of the next level, in the order of the rows that hold them
unfoldable pub next_rows : ℕ → ℕ → List Row → List Row
next_rows e l rows = filter_map (next_row e l rows) rows

-- the rows of level l, from those of level 0
unfoldable pub rows_from : ℕ → List Row → ℕ → List Row
rows_from e rows zero = rows
rows_from e rows (suc l) = next_rows e l (rows_from e rows l)

abbrev pub refused_row : ℕ → ℕ → List Row → Row → Option Refusal
refused_row e l rows row = where_opened (λ value agree. refusal_in l row.index (next_at e l row value)) (outcome_at e l rows row)

-- the refusals of a level, in the order of its rows
unfoldable pub refusals_at : ℕ → ℕ → List Row → List Refusal
refusals_at e l rows = filter_map (refused_row e l rows) rows

abbrev pub aux_row : ℕ → ℕ → List Row → Row → Option Aux
aux_row e l rows row = where_opened (λ value agree. aux_in l row.index (next_at e l row value)) (outcome_at e l rows row)

-- the extra bytes of a level, in the order of its rows
unfoldable pub aux_at : ℕ → ℕ → List Row → List Aux
aux_at e l rows = filter_map (aux_row e l rows) rows

-- what f gives of the members of each of these rows' groups, group by group
abbrev pub by_groups : {X : Type 0} → (Row → Option X) → List Row → List Row → List X
by_groups f rows firsts = flat_map (λ first. filter_map f (members rows first)) firsts

-- the row's group as a parent, where it is opened
abbrev pub child_row : ℕ → ℕ → List Row → Row → Option Parent
child_row e l rows row = where_opened (λ value agree. Some (child_of row value)) (outcome_at e l rows row)

-- the opened groups of a level as the parents of the next, in the order of their first members
unfoldable pub parents_at : ℕ → ℕ → List Row → List Parent
parents_at e l rows = filter_map (child_row e l rows) (first_members rows)

-- the row's group as it is told, where it is opened
abbrev pub opened_row : ℕ → ℕ → List Row → Row → Option OpenedGroup
opened_row e l rows row =
    where_opened (λ value agree. Some (record {
      path = path_with row value;
      points = length (points_left rows row);
      agree = agree;
      members = length (members rows row);
    })) (outcome_at e l rows row)

-- the opened groups of a level, in the order of their first members
unfoldable pub opened_at : ℕ → ℕ → List Row → List OpenedGroup
opened_at e l rows = filter_map (opened_row e l rows) (first_members rows)

abbrev pub is_opened : Outcome → Bool
is_opened (Opened value agree) = true
is_opened Few = false
is_opened NoLine = false
is_opened BadValue = false

abbrev pub is_few : Outcome → Bool
is_few (Opened value agree) = false
is_few Few = true
is_few NoLine = false
is_few BadValue = false

abbrev pub is_no_line : Outcome → Bool
is_no_line (Opened value agree) = false
is_no_line Few = false
is_no_line NoLine = true
is_no_line BadValue = false

abbrev pub is_bad_value : Outcome → Bool
is_bad_value (Opened value agree) = false
is_bad_value Few = false
is_bad_value NoLine = false
is_bad_value BadValue = true

-- how many came out in each way
abbrev pub count_of : List Outcome → LevelCount
count_of outcomes = record {
  opened = length (filter is_opened outcomes);
  few = length (filter is_few outcomes);
  no_line = length (filter is_no_line outcomes);
  bad_value = length (filter is_bad_value outcomes);
}

-- the counts of a level, if it has a group
abbrev pub counts_of : List Outcome → List LevelCount
counts_of [] = []
counts_of (o ∷ os) = count_of (o ∷ os) ∷ []

-- the counts of a level, if it has a row
unfoldable pub counts_at : ℕ → ℕ → List Row → List LevelCount
counts_at e l rows = counts_of (map (outcome_at e l rows) (first_members rows))
