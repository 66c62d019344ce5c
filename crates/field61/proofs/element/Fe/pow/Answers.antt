use Rattle.std.proofs.Common.{◌≡◌, ℕ, ◌*◌, ◌%◌, ◌^◌, sym, ap, ◌∙◌, arith}
use Rattle.std.proofs.Math.Nat.{mod-eq_of_lt, pow-zero, mul-one}
use Rattle.field61.specs.declared.TheConstants.{MODULUS}
use Rattle.field61.specs.Field.{field_product, field_power}
use Rattle.field61.proofs.Powers.{halved_even, halved_odd}
use Rattle.field61.proofs.element.Fe.pow.Goals as goal
use Rattle.field61.proofs.element.Fe.pow.Goals.{then-rest-eq1, else-rest-eq1}

pub loop-rest-preserved : goal.loop-rest-preserved
unfolding field_product
loop-rest-preserved c =
    elim c.if-rest-eq1.branch [
      | then-rest-eq1 w ↦ record {
        below = omega arith;
        kept = rw (w.power-is, w.mul-power.ensures.product, c.mul-square.ensures.product)
            (halved_odd c.loop-rest.power c.loop-rest.square c.loop-rest.rest MODULUS w.if-rest-eq1.true ∙ c.loop-rest.invariant.kept);
      }
      | else-rest-eq1 w ↦ record {
        below = omega arith;
        kept = rw (w.power-is, c.mul-square.ensures.product)
            (halved_even c.loop-rest.power c.loop-rest.square c.loop-rest.rest MODULUS (omega (arith, w.if-rest-eq1.false)) ∙ c.loop-rest.invariant.kept);
      }
    ]

pub returns-clause-power : goal.returns-clause-power
unfolding field_power
returns-clause-power c =
    let none : c.loop-rest.rest ≡ 0 = omega arith in
    sym (mod-eq_of_lt c.loop-rest.invariant.below)
    ∙ sym (ap (λ (z : ℕ). (c.loop-rest.power * c.loop-rest.square ^ z) % MODULUS) none
    ∙ ap (λ (z : ℕ). (c.loop-rest.power * z) % MODULUS) (pow-zero c.loop-rest.square)
    ∙ ap (λ (z : ℕ). z % MODULUS) (mul-one c.loop-rest.power))
    ∙ c.loop-rest.invariant.kept
