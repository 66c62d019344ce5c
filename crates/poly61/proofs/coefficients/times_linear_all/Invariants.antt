use Rattle.std.proofs.Common.{ℕ, ◌<◌, ◌≤◌, ◌≡◌, get_or, ◌∷◌}
use Rattle.field61.specs.Field.{field_difference, field_product, AreElements}
use Rattle.poly61.proofs.coefficients.times_linear_all.Given as goal

abbrev pub invariant-loop-i : goal.invariant-loop-i
invariant-loop-i l = record {
  elements : AreElements l.coefficients;
  previous : l.previous ≡ get_or (0 ∷ l.fn.coefficients) l.i 0;
  done : (k : ℕ) → k < l.i → get_or l.coefficients k 0 ≡ field_difference (get_or (0 ∷ l.fn.coefficients) k 0) (field_product l.a (get_or l.fn.coefficients k 0));
  rest : (k : ℕ) → l.i ≤ k → get_or l.coefficients k 0 ≡ get_or l.fn.coefficients k 0;
}
