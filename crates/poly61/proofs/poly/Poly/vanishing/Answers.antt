use Rattle.std.proofs.Common.{arith, ◌≡◌, ◌-◌, ◌∙◌, suc, subst, get_or, drop}
use Rattle.std.proofs.lemmas.Grind.{common_steps}
use Rattle.std.proofs.lemmas.List.{length-drop}
use Rattle.poly61.specs.Poly.{SameCoefficients}
use Rattle.poly61.specs.Vanishing.{vanishing_of}
use Rattle.poly61.proofs.Lists.{coefficient_of-past}
use Rattle.poly61.proofs.Products.{length-vanishing_of, vanishing_of-before}
use Rattle.poly61.proofs.poly.Poly.vanishing.Goals as goal

pub times_linear-requires : goal.times_linear-requires
times_linear-requires c k past =
    let rest = drop c.loop-i.i c.args.xs.now in
    c.loop-i.invariant.same k ∙ coefficient_of-past (vanishing_of rest) k (omega (arith, c.loop-i.invariant.room, length-vanishing_of rest, length-drop c.loop-i.i c.args.xs.now))

pub loop-i-preserved : goal.loop-i-preserved
loop-i-preserved c =
    let point : c.index-xs-i.result ≡ get_or c.args.xs.now (c.loop-i.i - 1) 0 = grind (arith, common_steps) in
    let place : c.loop-i.i ≡ suc (c.loop-i.i - 1) = omega arith in
    let inv = c.loop-i.invariant in
    record {
      room = c.times_linear.ensures.room ∙ inv.room;
      same = vanishing_of-before c.args.xs.now c.loop-i.self c.times_linear.new.self (c.loop-i.i - 1) c.index-xs-i.result (omega arith) point
          (subst (λ i. SameCoefficients c.loop-i.self (vanishing_of (drop i c.args.xs.now))) place inv.same) c.times_linear.ensures.product;
    }
