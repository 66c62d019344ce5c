use Rattle.std.proofs.Common.{◌≡◌, take}
use Rattle.layer_walk.proofs.held.copied_inners.Given as goal

abbrev pub invariant-loop-inner : goal.invariant-loop-inner
invariant-loop-inner l = l.copies.items ≡ take l.inner-index l.inners
