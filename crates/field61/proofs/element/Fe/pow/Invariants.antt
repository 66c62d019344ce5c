use Rattle.std.proofs.Common.{◌≡◌, ◌<◌, ◌*◌, ◌%◌, ◌^◌}
use Rattle.field61.specs.declared.TheConstants.{MODULUS}
use Rattle.field61.proofs.element.Fe.pow.Given as goal

abbrev pub invariant-loop-rest : goal.invariant-loop-rest
invariant-loop-rest l = record {
  below : l.power < MODULUS;
  kept : (l.power * l.square ^ l.rest) % MODULUS ≡ l.fn.self ^ l.fn.e % MODULUS;
}

abbrev pub decreases-loop-rest : goal.decreases-loop-rest
decreases-loop-rest l = l.rest
