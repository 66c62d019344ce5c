use Rattle.std.proofs.Common.{ℕ, ◌<◌, ◌≤◌, ◌≡◌, get_or}
use Rattle.field61.specs.Field.{field_sum, AreElements}
use Rattle.poly61.specs.Blocks.{product_at}
use Rattle.poly61.proofs.blocks.add_columns.Given as goal

abbrev pub invariant-loop-t : goal.invariant-loop-t
invariant-loop-t l = record {
  elements : AreElements l.out;
  done : (k : ℕ) → k < l.t → get_or l.out k 0 ≡ field_sum (get_or l.fn.out k 0) (product_at l.f l.g k);
  rest : (k : ℕ) → l.t ≤ k → get_or l.out k 0 ≡ get_or l.fn.out k 0;
}
