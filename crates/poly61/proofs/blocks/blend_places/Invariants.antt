use Rattle.std.proofs.Common.{ℕ, ◌<◌, ◌≤◌, ◌≡◌, get_or}
use Rattle.field61.specs.Field.{field_sum, field_product, AreElements}
use Rattle.poly61.proofs.blocks.blend_places.Given as goal

abbrev pub invariant-loop-i : goal.invariant-loop-i
invariant-loop-i l = record {
  elements : AreElements l.coefficients;
  done : (k : ℕ) → k < l.i → get_or l.coefficients k 0 ≡ field_sum (field_product (get_or l.fn.coefficients k 0) l.c) (field_product (get_or l.other k 0) l.d);
  rest : (k : ℕ) → l.i ≤ k → get_or l.coefficients k 0 ≡ get_or l.fn.coefficients k 0;
}
