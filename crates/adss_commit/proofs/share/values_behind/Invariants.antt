use Rattle.std.proofs.Common.{◌≡◌, ◌-◌, ◌*◌}
use Rattle.adss_commit.specs.Derivation.{values_from}
use Rattle.adss_commit.proofs.share.values_behind.Given as goal

abbrev pub invariant-turns : goal.invariant-turns
invariant-turns l = let start = 64 * (l.count - l.done) in l.behind ≡ values_from l.key start (l.powers - start) l.x
