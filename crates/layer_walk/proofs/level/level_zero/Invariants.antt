use Rattle.std.proofs.Common.{◌≡◌, map, take}
use Rattle.layer_walk.specs.Reveal.{outer_rows}
use Rattle.layer_walk.specs.Standing.{outermost}
use Rattle.layer_walk.proofs.level.level_zero.Given as goal

abbrev pub invariant-loop-i : goal.invariant-loop-i
invariant-loop-i l = l.rows ≡ map outermost (outer_rows l.epoch (take l.i l.records))
