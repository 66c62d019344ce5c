use Rattle.std.proofs.Common.{arith, ◌≡◌, ◌+◌, ◌∙◌, sym, ap, subst, get_or}
use Rattle.std.proofs.lemmas.Grind.{common_steps}
use Rattle.poly61.specs.Poly.{value, IsLinearMultiple}
use Rattle.poly61.proofs.Values.{IsLinearMultiple-below}
use Rattle.gao_decoder.proofs.Choice.{chosen_past, chosen_more}
use Rattle.gao_decoder.proofs.choosing.choose_one.Goals as goal

pub returns-then-chosen-k-clause-chosen : goal.returns-then-chosen-k-clause-chosen
returns-then-chosen-k-clause-chosen c =
    chosen_past c.args.xs.now c.args.ys.now c.args.w.now c.args.candidate.now c.args.work.now c.args.i c.args.chosen c.args.k c.requires.point (λ few. absurd (omega (arith, few, c.if-chosen-k.true))) c.requires.chosen

pub returns-then-value-eq0-clause-chosen : goal.returns-then-value-eq0-clause-chosen
returns-then-value-eq0-clause-chosen c =
    let x : c.index-xs-i.result ≡ get_or c.args.xs.now c.args.i 0 = grind (arith, common_steps) in
    chosen_past c.args.xs.now c.args.ys.now c.args.w.now c.args.candidate.now c.args.work.now c.args.i c.args.chosen c.args.k c.requires.point
    (λ _. ap (value c.args.w.now) (sym x) ∙ sym c.value_at.ensures.value ∙ sym c.value.ensures.same ∙ c.if-value-eq0.true) c.requires.chosen

pub returns-clause-work_below : goal.returns-clause-work_below
returns-clause-work_below c = IsLinearMultiple-below c.pass_through.new.work c.args.work.now c.index-xs-i-2.result 0 (c.args.chosen + 1) c.pass_through.ensures.work c.requires.work_below

pub returns-clause-chosen : goal.returns-clause-chosen
returns-clause-chosen c =
    let step = c.pass_through.ensures in
    let x : c.index-xs-i.result ≡ get_or c.args.xs.now c.args.i 0 = grind (arith, common_steps) in
    let again : c.index-xs-i-2.result ≡ get_or c.args.xs.now c.args.i 0 = grind (arith, common_steps) in
    let y : c.index-ys-i.result ≡ get_or c.args.ys.now c.args.i 0 = grind (arith, common_steps) in
    chosen_more c.args.xs.now c.args.ys.now c.args.w.now c.args.candidate.now c.args.work.now c.pass_through.new.self c.pass_through.new.work c.args.i c.args.chosen c.args.k c.requires.point c.requires.distinct c.requires.elements
    (omega (arith, c.if-chosen-k.false, c.requires.within))
    (λ root. c.if-value-eq0.false (c.value.ensures.same ∙ c.value_at.ensures.value ∙ ap (value c.args.w.now) x ∙ root))
    (ap (value c.pass_through.new.self) (sym again) ∙ step.passes ∙ y)
    step.keeps
    (subst (λ a. IsLinearMultiple c.pass_through.new.work c.args.work.now a 0) again step.work)
    c.requires.chosen
