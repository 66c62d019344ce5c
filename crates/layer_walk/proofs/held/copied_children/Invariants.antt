use Rattle.std.proofs.Common.{take}
use Rattle.layer_walk.specs.Rows.{first_members}
use Rattle.layer_walk.specs.Made.{named}
use Rattle.layer_walk.specs.Kept.{AreChildren}
use Rattle.layer_walk.proofs.held.copied_children.Given as goal

abbrev pub invariant-loop-i : goal.invariant-loop-i
invariant-loop-i l = AreChildren l.level (take l.i (first_members (named l.level))) l.children.parents l.children.rows.items
