use Rattle.std.proofs.Common.{take}
use Rattle.std.specs.List.{AllZip}
use Rattle.layer_walk.specs.Outs.{IsOut}
use Rattle.star_tool.proofs.tests_levels.outs_of.Given as goal

abbrev pub invariant-loop-group : goal.invariant-loop-group
invariant-loop-group l = AllZip (IsOut l.level) (take l.group-index l.group-items) l.outs.items
