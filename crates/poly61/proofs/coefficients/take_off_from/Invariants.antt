use Rattle.std.proofs.Common.{◌≡◌, ℕ, ◌+◌, ◌<◌, ◌≤◌, get_or}
use Rattle.field61.specs.Field.{field_difference, field_product, AreElements}
use Rattle.poly61.proofs.coefficients.take_off_from.Given as goal

abbrev pub invariant-loop-i : goal.invariant-loop-i
invariant-loop-i l = record {
  elements : AreElements l.coefficients;
  low : (k : ℕ) → k < l.shift → get_or l.coefficients k 0 ≡ get_or l.fn.coefficients k 0;
  done : (k : ℕ) → k < l.i → get_or l.coefficients (l.shift + k) 0 ≡ field_difference (get_or l.fn.coefficients (l.shift + k) 0) (field_product l.c (get_or l.other k 0));
  rest : (k : ℕ) → l.i ≤ k → get_or l.coefficients (l.shift + k) 0 ≡ get_or l.fn.coefficients (l.shift + k) 0;
}
