use Rattle.std.proofs.Common.{arith, ℕ, ◌≡◌, ◌+◌, ◌∙◌, sym, ap, get_or, take, cond}
use Rattle.shamir_limbs.specs.KeyLine.{is_on_all, agreement_of_all}
use Rattle.shamir_limbs.specs.declared.share.Point.{Point}
use Rattle.shamir_limbs.proofs.OnAll.{agreement_of_all-more}
use Rattle.cert_audit.proofs.auditing.agreement.Goals as goal
use Rattle.cert_audit.proofs.auditing.agreement.Goals.{then-is_on_all, else-is_on_all}

pub loop-i-preserved : goal.loop-i-preserved
loop-i-preserved c =
    let inv = c.loop-i.invariant in
    let p : Point = c.index-points-i.result in
    let before : ℕ = agreement_of_all c.args.first.now c.args.second.now c.args.third.now (take c.loop-i.i c.args.points.now) in
    let tested : is_on_all c.args.first.now c.args.second.now c.args.third.now (get_or c.args.points.now c.loop-i.i p)
    ≡ c.is_on_all.result =
    ap (is_on_all c.args.first.now c.args.second.now c.args.third.now) (sym c.index-points-i.is) ∙ sym c.is_on_all.ensures in
    let step = agreement_of_all-more c.args.first.now c.args.second.now c.args.third.now c.args.points.now c.loop-i.i p c.loop-i-test.true in
    elim c.if-is_on_all.branch [
      | then-is_on_all w ↦ record { is = w.count-is ∙ ap (λ n. n + 1) inv.is ∙ sym (step ∙ ap (λ b. before + cond b 1 0) (tested ∙ w.if-is_on_all.true)); few = omega arith }
      | else-is_on_all w ↦ record { is = w.count-is ∙ inv.is ∙ sym (step ∙ ap (λ b. before + cond b 1 0) (tested ∙ w.if-is_on_all.false) ∙ omega arith); few = omega arith }
    ]
