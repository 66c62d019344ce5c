use Rattle.std.proofs.Common.{arith, ◌≡◌, ◌∙◌, ap, sym, subst, get_or, length}
use Rattle.std.proofs.Math.ListN.{set, length-set}
use Rattle.poly61.specs.Poly.{HasDegreeBelow}
use Rattle.gao_decoder.specs.Choosing.{IsChosen}
use Rattle.gao_decoder.proofs.Choice.{chosen_none, chosen_only}
use Rattle.gao_decoder.proofs.Decoded.{set_one}
use Rattle.gao_decoder.proofs.choosing.choose.Goals as goal

pub loop-i-init : goal.loop-i-init
loop-i-init c =
    let work = c.set_coefficient.new.self in
    let one = set_one c.clear-2.new.self c.clear-2.ensures.zero (omega (arith, c.clear-2.ensures.room, c.requires.work_room)) in
    let is : work ≡ set c.clear-2.new.self 0 1 = cc in
    let first : get_or work 0 0 ≡ 1 = rw is one.0 in
    let below : HasDegreeBelow work 1 = subst (λ f. HasDegreeBelow f 1) (sym is) one.1 in
    record {
      room = c.clear.ensures.room;
      work_room = ap length is ∙ length-set c.clear-2.new.self 0 1 ∙ c.clear-2.ensures.room;
      within = omega arith;
      below = λ i _. c.clear.ensures.zero i;
      work_below = below;
      chosen = chosen_none c.args.problem.now.xs.now c.args.problem.now.ys.now c.args.w.now c.clear.new.self work c.args.problem.now.k first below;
    }

pub returns-clause-only : goal.returns-clause-only
returns-clause-only c f elements below passes =
    let inv = c.loop-i.invariant in
    let end : c.loop-i.i ≡ length c.args.problem.now.xs.now = omega arith in
    let chosen : IsChosen c.args.problem.now.xs.now c.args.problem.now.ys.now c.args.w.now c.loop-i.candidate c.loop-i.work (length c.args.problem.now.xs.now) c.loop-i.chosen c.args.problem.now.k =
    subst (λ i. IsChosen c.args.problem.now.xs.now c.args.problem.now.ys.now c.args.w.now c.loop-i.candidate c.loop-i.work i c.loop-i.chosen c.args.problem.now.k) end inv.chosen in
    chosen_only c.args.problem.now.xs.now c.args.problem.now.ys.now c.args.w.now c.loop-i.candidate c.loop-i.work f c.loop-i.chosen c.args.problem.now.k c.args.problem.now.distinct c.know_elements.ensures c.requires.many inv.within
    (λ i past. inv.below i (omega (arith, inv.within))) c.know.ensures chosen elements below passes
