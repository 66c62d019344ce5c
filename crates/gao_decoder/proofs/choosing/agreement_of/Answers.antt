use Rattle.std.proofs.Common.{arith, ℕ, ◌≡◌, ◌+◌, ◌∙◌, sym, ap, get_or, take, cond}
use Rattle.std.proofs.lemmas.Grind.{common_steps}
use Rattle.std.proofs.lemmas.Bool.{eq-eqb, ne_eqb}
use Rattle.poly61.specs.Poly.{value}
use Rattle.gao_decoder.specs.Decoding.{agreement}
use Rattle.gao_decoder.proofs.Counting.{agreement-more}
use Rattle.gao_decoder.proofs.choosing.agreement_of.Goals as goal
use Rattle.gao_decoder.proofs.choosing.agreement_of.Goals.{then-value, else-value}

pub loop-i-preserved : goal.loop-i-preserved
loop-i-preserved c =
    let inv = c.loop-i.invariant in
    let before : ℕ = agreement c.args.f.now (take c.loop-i.i c.args.xs.now) (take c.loop-i.i c.args.ys.now) in
    let x : c.index-xs-i.result ≡ get_or c.args.xs.now c.loop-i.i 0 = grind (arith, common_steps) in
    let y : c.index-ys-i.result ≡ get_or c.args.ys.now c.loop-i.i 0 = grind (arith, common_steps) in
    let left : c.value.result ≡ value c.args.f.now (get_or c.args.xs.now c.loop-i.i 0) = c.value.ensures.same ∙ c.value_at.ensures.value ∙ ap (value c.args.f.now) x in
    let right : c.value-in-loop-i.result ≡ get_or c.args.ys.now c.loop-i.i 0 = c.value-in-loop-i.ensures.same ∙ y in
    let step = agreement-more c.args.f.now c.args.xs.now c.args.ys.now c.loop-i.i c.loop-i-test.true c.requires in
    elim c.if-value.branch [
      | then-value w ↦ record { is = w.count-is ∙ ap (λ n. n + 1) inv.is ∙ sym (step ∙ ap (λ b. before + cond b 1 0) (eq-eqb _ _ (sym left ∙ w.if-value.true ∙ right))); few = omega arith }
      | else-value w ↦ record { is = w.count-is ∙ inv.is ∙ sym (step ∙ ap (λ b. before + cond b 1 0) (ne_eqb _ _ (λ e. w.if-value.false (left ∙ e ∙ sym right))) ∙ omega arith); few = omega arith }
    ]
