use Rattle.std.proofs.Common.{◌≡◌, take}
use Rattle.tag_groups.specs.Keys.{is_row_of}
use Rattle.tag_groups.proofs.groups.places_of.Given as goal
use Rattle.star_lists.specs.Places.{places}

abbrev pub invariant-loop-i : goal.invariant-loop-i
invariant-loop-i l = l.members.items ≡ places (is_row_of l.key) (take l.i l.rows)
