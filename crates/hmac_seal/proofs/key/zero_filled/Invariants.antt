use Rattle.std.proofs.Common.{◌≡◌, replicate}
use Rattle.std.proofs.Math.Seq.{paste}
use Rattle.hmac_seal.proofs.key.zero_filled.Given as goal

abbrev pub invariant-copy : goal.invariant-copy
invariant-copy l = l.block ≡ paste (replicate 64 0) 0 l.front l.place
