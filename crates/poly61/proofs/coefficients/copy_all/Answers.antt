use Rattle.std.proofs.Common.{arith, ◌<◌, sym, inl, inr, subst}
use Rattle.std.proofs.lemmas.Bool.{cases_lt}
use Rattle.std.proofs.lemmas.List.{get_or_past}
use Rattle.field61.specs.declared.TheConstants.{MODULUS}
use Rattle.field61.proofs.FieldLaws.{modulus_positive}
use Rattle.poly61.proofs.Lists.{AreElements-bounded, AreElements-from_bounded}
use Rattle.poly61.proofs.coefficients.copy_all.Goals as goal

pub returns-clause-elements : goal.returns-clause-elements
returns-clause-elements c = AreElements-from_bounded c.loop-i.coefficients (λ i. elim (cases_lt i c.loop-i.i) [
  | inl within ↦ subst (λ x. x < MODULUS) (sym (c.loop-i.invariant i within)) (AreElements-bounded c.args.other.now c.requires.elements i)
  | inr past ↦ subst (λ x. x < MODULUS) (sym (get_or_past c.loop-i.coefficients i 0 (omega arith))) modulus_positive
])
