use Rattle.std.proofs.Common.{◌≡◌, ◌+◌, ◌-◌, ◌*◌}
use Rattle.adss_commit.specs.Derivation.{values_from}
use Rattle.adss_commit.proofs.share.values_from_block.Given as goal

abbrev pub invariant-powers : goal.invariant-powers
invariant-powers l = let start = 64 * l.block + (l.count - l.done) in l.sums ≡ values_from l.key start (l.powers - start) l.x
