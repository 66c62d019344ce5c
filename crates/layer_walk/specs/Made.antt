-- A level of the code, and the rows that it stands for.
use Rattle.std.specs.Prelude.{◌≡◌, ◌≢◌, ℕ, ◌+◌, ◌<◌, ◌^◌, List, [], ◌∷◌, ◌++◌, length, map, All, AllPairs}
use Rattle.std.specs.List.{AllZip}
use Rattle.std.specs.List.Sorted.{IsStrictlySortedBy}
use Rattle.std.specs.Ordering.{nat_cmp}
use Rattle.std.specs.declared.cmp.Ordering.{Ordering}
use Rattle.tag_groups.specs.RowView.{RowView}
use Rattle.tag_groups.specs.GroupView.{GroupView}
use Rattle.layer_walk.specs.declared.group.GroupOut.{GroupOut}
use Rattle.layer_walk.specs.declared.level.Level.{Level}
use Rattle.layer_walk.specs.declared.level.Parent.{Parent}
use Rattle.layer_walk.specs.Rows.{Row}
use Rattle.layer_walk.specs.Outs.{IsOut, parent_at}
use Rattle.layer_walk.specs.Laws.{by_number}
use Rattle.layer_walk.specs.Levels.{next_rows, parents_at}

-- the row that a row of the code stands for: the number of its parent becomes that parent
abbrev pub named_row : List Parent → RowView → Row
named_row parents row = record { index = row.index; parent = parent_at parents row.parent; frame = row.report }

-- the rows that a level stands for
abbrev pub named : Level → List Row
named level = map (named_row level.parents) level.rows

-- what f says of the rows that a level stands for, at its epoch and number
abbrev pub of_level : {A : Type 0} → Level → (ℕ → ℕ → List Row → A) → A
of_level level f = f level.epoch level.number (named level)

-- by the number of the record
abbrev pub row_cmp : RowView → RowView → Ordering
row_cmp a b = nat_cmp a.index b.index

-- out i is what opening group i gives
abbrev pub AreOuts : Level → List GroupView → List GroupOut → Type 0
AreOuts level groups outs = AllZip (IsOut level) groups outs

-- The parents are there, on paths of the level's length that differ, and the records' numbers ascend.
pub record IsLevel (level : Level) : Type 0 where
  pub parents : All (λ (row : RowView). row.parent < length level.parents) level.rows
  pub depth : All (λ (p : Parent). length p.path ≡ level.number) level.parents
  pub distinct : AllPairs (λ (p q : Parent). p.path ≢ q.path) level.parents
  pub ascending : IsStrictlySortedBy by_number (named level)
  pub few : length level.rows < 2 ^ 32

-- the group as a parent, where it has this value
abbrev pub group_child : Level → GroupView → List ℕ → Parent
group_child level group value =
    record {
      path = (parent_at level.parents group.parent).path ++ record { value = value; k = group.head.k; version = group.head.version } ∷ [];
      check = group.head.check;
    }

-- The level after: its parents are the opened groups, and the rows that it stands for are the next rows.
pub record IsAfter (level next : Level) : Type 0 where
  pub number : next.number ≡ level.number + 1
  pub epoch : next.epoch ≡ level.epoch
  pub parents : next.parents ≡ of_level level parents_at
  pub rows : named next ≡ of_level level next_rows
