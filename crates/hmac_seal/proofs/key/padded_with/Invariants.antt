use Rattle.std.proofs.Common.{◌≡◌, ◌++◌, take, drop, map, bit_xor, length}
use Rattle.hmac_seal.proofs.key.padded_with.Given as goal

abbrev pub invariant-pad : goal.invariant-pad
invariant-pad l = record {
  long : length l.block ≡ 64;
  padded : l.block ≡ map (λ b. bit_xor b l.pad) (take l.place l.initial.block) ++ drop l.place l.initial.block;
}
