use Rattle.std.proofs.Common.{◌≡◌, ◌≤◌, ◌+◌, ◌*◌, get_or}
use Rattle.field61.specs.Sums.{plain_total}
use Rattle.field61.proofs.sums.few_products.Given as goal

abbrev pub invariant-loop-i : goal.invariant-loop-i
invariant-loop-i l = record {
  total : l.total ≡ plain_total l.i (λ i. get_or l.a (l.from + i) 0 * get_or l.b (l.other + i) 0);
  bound : l.total ≤ l.i * 5316911983139663487003542222693990400;
}
