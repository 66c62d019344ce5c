use Rattle.std.proofs.Common.{◌<◌, ◌≡◌, ◌-◌, ◌+◌, ◌*◌, get_or}
use Rattle.field61.specs.declared.TheConstants.{MODULUS}
use Rattle.poly61.proofs.Places.{value_to}
use Rattle.poly61.proofs.blocks.value_in_blocks.Given as goal

abbrev pub invariant-loop-block : goal.invariant-loop-block
invariant-loop-block l = record {
  sum : l.sum ≡ value_to (l.places - 32 * l.block) (λ i. get_or l.coefficients (32 * l.block + i) 0) l.fn.x;
  below : l.sum < MODULUS;
}
