use Rattle.std.proofs.Common.{◌≡◌, take, map}
use Rattle.tag_groups.specs.Keys.{same_key}
use Rattle.tag_groups.specs.Grouped.{group_of}
use Rattle.tag_groups.proofs.groups.group_rows.Given as goal
use Rattle.star_lists.specs.FirstOnes.{first_ones}

abbrev pub invariant-loop-row : goal.invariant-loop-row
invariant-loop-row l = l.groups.items ≡ map (group_of l.rows) (first_ones same_key (take l.row-index l.rows))
