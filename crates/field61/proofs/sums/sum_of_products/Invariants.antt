use Rattle.std.proofs.Common.{◌≡◌, ◌<◌, ◌+◌, ◌-◌, ◌*◌, get_or}
use Rattle.field61.specs.declared.TheConstants.{MODULUS}
use Rattle.field61.specs.Field.{field_product}
use Rattle.field61.specs.Sums.{field_total}
use Rattle.field61.proofs.sums.sum_of_products.Given as goal

abbrev pub invariant-loop-block : goal.invariant-loop-block
invariant-loop-block l = record {
  sum : l.sum ≡ field_total (l.n - 64 * l.block) (λ i. field_product (get_or l.a (l.from + 64 * l.block + i) 0) (get_or l.b (l.other + 64 * l.block + i) 0));
  below : l.sum < MODULUS;
}
