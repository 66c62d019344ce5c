use Rattle.std.proofs.Common.{arith, rules, ◌-◌, ◌≡◌, ◌<◌, ◌+◌, sym, ◌∙◌, subst, get_or}
use Rattle.std.proofs.lemmas.Grind.{common_steps}
use Rattle.std.proofs.lemmas.List.Elements.{All-set}
use Rattle.field61.specs.declared.TheConstants.{MODULUS}
use Rattle.field61.specs.Field.{field_sum, field_product}
use Rattle.field61.proofs.FieldLaws.{modulus_positive}
use Rattle.poly61.proofs.Lists.{value-drop}
use Rattle.poly61.proofs.Values.{IsLinearMultiple-quotient, quotient_past, value-drop_past}
use Rattle.poly61.proofs.coefficients.divide_all.Goals as goal

pub loop-i-init : goal.loop-i-init
loop-i-init c =
    let zero = c.requires.below in
    record {
      elements = c.requires.elements;
      small = modulus_positive;
      carry = sym (value-drop_past c.args.coefficients.now c.args.places c.args.a zero);
      past = zero;
      below = search rules;
      done = λ k past. zero k past ∙ quotient_past c.args.a _ _ (zero (k + 1) (omega arith)) (zero (k + 1) (omega arith));
      next = quotient_past c.args.a _ _ (zero c.args.places (omega arith)) (zero c.args.places (omega arith));
    }

pub loop-i-preserved : goal.loop-i-preserved
loop-i-preserved c = record {
  elements = All-set (λ x. x < MODULUS) c.loop-i.coefficients (c.loop-i.i - 1) c.loop-i.carry c.loop-i.invariant.small c.loop-i.invariant.elements;
  small = search rules;
  carry = let step = value-drop c.args.coefficients.now c.loop-i.i c.args.a c.loop-i-test.true (omega arith) in
      let old : c.index-coefficients-i.result ≡ get_or c.args.coefficients.now (c.loop-i.i - 1) 0 = grind (arith, common_steps) in cc;
  past = grind (arith, common_steps);
  below = grind (arith, common_steps);
  done = grind (arith, common_steps);
  next = grind (arith, common_steps);
}

pub returns-clause-quotient : goal.returns-clause-quotient
returns-clause-quotient c =
    let inv = c.loop-i.invariant in
    let end : c.loop-i.i ≡ 0 = omega arith in
    IsLinearMultiple-quotient c.args.coefficients.now c.loop-i.coefficients c.args.a c.loop-i.carry c.requires.elements
    (subst (λ i. c.loop-i.carry ≡ field_sum (get_or c.args.coefficients.now i 0) (field_product c.args.a (get_or c.loop-i.coefficients i 0))) end inv.next) (λ i. inv.done i (omega arith))
