use Rattle.std.proofs.Common.{take}
use Rattle.tag_groups.specs.Laws.{rows_at}
use Rattle.layer_walk.specs.Held.{HeldOf}
use Rattle.layer_walk.proofs.member.read_members.Given as goal

abbrev pub invariant-loop-place : goal.invariant-loop-place
invariant-loop-place l = HeldOf l.keys (rows_at l.rows (take l.place-index l.members)) l.held
