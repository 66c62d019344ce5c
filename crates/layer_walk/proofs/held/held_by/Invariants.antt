use Rattle.std.proofs.Common.{◌≡◌, length, take}
use Rattle.layer_walk.specs.Rows.{first_members}
use Rattle.layer_walk.specs.Made.{named}
use Rattle.layer_walk.specs.Kept.{IsHeld}
use Rattle.layer_walk.proofs.held.held_by.Given as goal

abbrev pub invariant-loop-out : goal.invariant-loop-out
invariant-loop-out l = (l.i ≡ length l.yielded) × IsHeld l.level (take l.i (first_members (named l.level))) l.held
