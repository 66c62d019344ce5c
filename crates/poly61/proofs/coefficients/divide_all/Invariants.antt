use Rattle.std.proofs.Common.{ℕ, ◌+◌, ◌<◌, ◌≤◌, ◌≡◌, get_or, drop}
use Rattle.field61.specs.declared.TheConstants.{MODULUS}
use Rattle.field61.specs.Field.{field_sum, field_product, AreElements}
use Rattle.poly61.specs.Poly.{value, HasDegreeBelow}
use Rattle.poly61.proofs.coefficients.divide_all.Given as goal

abbrev pub invariant-loop-i : goal.invariant-loop-i
invariant-loop-i l = record {
  elements : AreElements l.coefficients;
  small : l.carry < MODULUS;
  carry : l.carry ≡ value (drop l.i l.fn.coefficients) l.a;
  past : HasDegreeBelow l.coefficients l.places;
  below : (k : ℕ) → k < l.i → get_or l.coefficients k 0 ≡ get_or l.fn.coefficients k 0;
  done : (k : ℕ) → l.i ≤ k → get_or l.coefficients k 0 ≡ field_sum (get_or l.fn.coefficients (k + 1) 0) (field_product l.a (get_or l.coefficients (k + 1) 0));
  next : l.carry ≡ field_sum (get_or l.fn.coefficients l.i 0) (field_product l.a (get_or l.coefficients l.i 0));
}
