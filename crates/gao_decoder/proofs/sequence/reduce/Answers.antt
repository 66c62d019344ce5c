use Rattle.std.proofs.Common.{arith, ◌≡◌, ◌<◌, ◌≤◌, ◌+◌, ◌-◌, ◌∙◌, sym, ap, subst, inl, inr, get_or}
use Rattle.std.proofs.lemmas.Bool.{cases_eq}
use Rattle.field61.specs.declared.TheConstants.{MODULUS}
use Rattle.field61.specs.Field.{field_product, AreElements}
use Rattle.poly61.specs.Poly.{HasDegree, TakesOff}
use Rattle.poly61.proofs.Lists.{AreElements-bounded}
use Rattle.gao_decoder.proofs.Steps.{IsTied-step, step_below, step_top, step_keeps, quotient_nonzero}
use Rattle.gao_decoder.proofs.sequence.reduce.Goals as goal

pub loop-shift-preserved : goal.loop-shift-preserved
loop-shift-preserved c =
    let inv = c.loop-shift.invariant in
    let near = c.requires.neighbours in
    let shift = c.loop-shift.shift - 1 in
    let low = c.args.low in
    let span = c.args.top - c.args.low in
    let x = c.mul-c.result in
    let upper = c.loop-shift.upper in
    let cofactor = c.loop-shift.upper_cofactor in
    let lower = c.args.lower.now in
    let lower_cofactor = c.args.lower_cofactor.now in
    let new = c.take_off.new.self in
    let new_cofactor = c.take_off-in-loop-shift.new.self in
    let positive : 0 < c.loop-shift.shift = c.loop-shift-test.true in
    let within : c.loop-shift.shift ≤ span + 1 = c.loop-shift.auto.shift in
    let order : low < c.args.top = c.requires.order in
    let upper_elements : AreElements upper = c.know.ensures in
    let cofactor_elements : AreElements cofactor = c.know-in-loop-shift.ensures in
    let w_elements : AreElements lower_cofactor = c.know-in-loop-shift-2.ensures in
    let taken : TakesOff upper new x shift lower = c.take_off.ensures.taken in
    let cofactor_taken : TakesOff cofactor new_cofactor x shift lower_cofactor = c.take_off-in-loop-shift.ensures.taken in
    let inverse = c.inverse_at-inverse.result in
    let one : field_product (get_or lower low 0) inverse ≡ 1 = c.inverse_at-inverse.ensures in
    let is : x ≡ field_product (get_or upper (low + shift) 0) inverse = c.mul-c.ensures.product ∙ ap (λ z. field_product z inverse) c.coefficient.ensures.coefficient in
    let inverse_below : inverse < MODULUS = c.know_element.ensures in
    record {
      room = c.take_off.ensures.room ∙ inv.room;
      cofactor_room = c.take_off-in-loop-shift.ensures.room ∙ inv.cofactor_room;
      tied = IsTied-step c.args.xs.now c.args.ys.now upper cofactor lower lower_cofactor new new_cofactor x shift upper_elements cofactor_elements taken cofactor_taken inv.tied near.tied_lower;
      below = step_below upper lower new x shift low inverse upper_elements taken is one c.requires.degree.above (λ i past. inv.below i (omega arith));
      first = λ e. absurd (omega (arith, e));
      first_cofactor = λ e. absurd (omega (arith, e));
      later = λ _. elim (cases_eq c.loop-shift.shift (span + 1)) [
        | inl e ↦
            let at : low + shift ≡ c.args.top = omega (arith, e) in
            let nonzero : get_or upper (low + shift) 0 ≡ 0 → ⊥ = λ z. inv.first e (ap (λ i. get_or upper i 0) (sym at) ∙ z) in
            let x_nonzero : x ≡ 0 → ⊥ = λ z. quotient_nonzero (get_or upper (low + shift) 0) (get_or lower low 0) inverse (AreElements-bounded upper upper_elements (low + shift)) inverse_below nonzero one (sym is ∙ z) in
            subst (λ i. HasDegree new_cofactor (c.args.cofactor_top + i)) (omega (arith, e))
            (step_top cofactor lower_cofactor new_cofactor x shift c.args.cofactor_top cofactor_elements w_elements cofactor_taken c.mul-c.ensures.below x_nonzero near.lower_cofactor (inv.first_cofactor e))
        | inr other ↦ step_keeps cofactor lower_cofactor new_cofactor x shift c.args.cofactor_top (c.args.cofactor_top + span) cofactor_elements cofactor_taken near.lower_cofactor (omega (arith, other)) (inv.later (omega (arith, other)))
      ];
    }
