use Rattle.std.proofs.Common.{◌≡◌, take}
use Rattle.layer_walk.specs.Made.{AreOuts}
use Rattle.open_cert.specs.Made.{certified_groups}
use Rattle.open_cert.proofs.opened.open_level.Given as goal

abbrev pub invariant-loop-i : goal.invariant-loop-i
invariant-loop-i l = record {
  outs : AreOuts l.level (take l.i l.groups) l.outs.items;
  made : l.made.items ≡ certified_groups l.level (take l.i l.groups);
}
