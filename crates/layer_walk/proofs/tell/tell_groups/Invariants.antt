use Rattle.std.proofs.Common.{◌≡◌, ◌++◌, take}
use Rattle.std.specs.List.{filter_map}
use Rattle.layer_walk.specs.Rows.{first_members}
use Rattle.layer_walk.specs.Levels.{opened_row}
use Rattle.layer_walk.specs.Made.{of_level, named}
use Rattle.layer_walk.proofs.tell.tell_groups.Given as goal

abbrev pub invariant-loop-i : goal.invariant-loop-i
invariant-loop-i l =
    l.told.items ≡ l.initial.told.items ++ filter_map (of_level l.level opened_row) (take l.i (first_members (named l.level)))
