use Rattle.std.proofs.Common.{arith, ◌≡◌, refl, length}
use Rattle.gao_decoder.proofs.Rows.{tied_from}
use Rattle.gao_decoder.proofs.halving.find_row.Goals as goal

pub returns-then-orders : goal.returns-then-orders
returns-then-orders c _ =
    let rows = c.halve.new.rows in
    let end : c.loop-i.i ≡ length c.args.problem.now.xs.now = omega arith in
    rw c.swap.ensures.x_after (tied_from rows.b.v rows.b.r c.args.problem.now.xs.now c.args.problem.now.ys.now c.loop-i.firsts c.loop-i.seconds
    (λ i h. (c.if-not-halve.ensures.done refl i (omega arith) h).second) (λ i h. c.loop-i.invariant.firsts i (omega (arith, end))) (λ i h. c.loop-i.invariant.seconds i (omega (arith, end))))

pub returns : goal.returns
returns c _ =
    let rows = c.halve.new.rows in
    let end : c.loop-i.i ≡ length c.args.problem.now.xs.now = omega arith in
    tied_from rows.a.v rows.a.r c.args.problem.now.xs.now c.args.problem.now.ys.now c.loop-i.firsts c.loop-i.seconds
    (λ i h. (c.if-not-halve.ensures.done refl i (omega arith) h).first) (λ i h. c.loop-i.invariant.firsts i (omega (arith, end))) (λ i h. c.loop-i.invariant.seconds i (omega (arith, end)))
