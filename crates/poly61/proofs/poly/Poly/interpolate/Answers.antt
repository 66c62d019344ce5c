use Rattle.std.proofs.Common.{arith, ℕ, ◌≡◌, ◌<◌, ◌+◌, ◌∙◌, sym, ap, subst, inl, inr, get_or}
use Rattle.std.proofs.lemmas.Grind.{common_steps}
use borrow.Author.Count.{below_more}
use Rattle.field61.specs.declared.TheConstants.{MODULUS}
use Rattle.poly61.specs.Poly.{value}
use Rattle.poly61.proofs.Elements.{one_is_not_zero}
use Rattle.poly61.proofs.Lists.{AreElements-bounded}
use Rattle.poly61.proofs.Values.{value-one, linear_root, linear_nonzero, IsLinearMultiple-below}
use Rattle.poly61.proofs.poly.Poly.interpolate.Goals as goal

pub loop-i-init : goal.loop-i-init
loop-i-init c = record {
  room = c.clear.ensures.room;
  work_room = c.set_one.ensures.room;
  below = λ i _. c.clear.ensures.zero i;
  work_below = c.set_one.ensures.below;
  done = λ k none. absurd (omega arith);
  zero = λ k none. absurd (omega arith);
  ahead = λ k _ _ root. one_is_not_zero _ (value-one c.set_one.new.self (get_or c.args.xs.now k 0) c.set_one.ensures.one c.set_one.ensures.below) root;
}

pub loop-i-preserved : goal.loop-i-preserved
loop-i-preserved c =
    let xs = c.args.xs.now in
    let ys = c.args.ys.now in
    let i : ℕ = c.loop-i.i in
    let inv = c.loop-i.invariant in
    let step = c.pass_through.ensures in
    let new = c.pass_through.new.self in
    let work = c.pass_through.new.work in
    let a = c.index-xs-i.result in
    let x : a ≡ get_or xs c.loop-i.i 0 = grind (arith, common_steps) in
    let y : c.index-ys-i.result ≡ get_or ys c.loop-i.i 0 = grind (arith, common_steps) in
    let small : (k : ℕ) → get_or xs k 0 < MODULUS = AreElements-bounded xs c.know_elements.ensures in
    record {
      room = step.room ∙ inv.room;
      work_room = step.work_room ∙ inv.work_room;
      below = step.below (c.loop-i.i + 1) inv.work_below (λ j past. inv.below j (omega arith));
      work_below = IsLinearMultiple-below work c.loop-i.work a 0 (c.loop-i.i + 1) step.work inv.work_below;
      done = below_more (λ k. value new (get_or xs k 0) ≡ get_or ys k 0) c.loop-i.i
          (λ k before. step.keeps (get_or xs k 0) (inv.zero k before) ∙ inv.done k before) (ap (value new) (sym x) ∙ step.passes ∙ y);
      zero = below_more (λ k. value work (get_or xs k 0) ≡ 0) c.loop-i.i
          (λ k before. linear_root work c.loop-i.work a (get_or xs k 0) step.work (inr (inv.zero k before)))
          (linear_root work c.loop-i.work a (get_or xs c.loop-i.i 0) step.work (inl (sym x)));
      ahead = λ k after within. linear_nonzero work c.loop-i.work a (get_or xs k 0) step.work (subst (λ z. z < MODULUS) (sym x) (small c.loop-i.i)) (small k)
          (λ same. c.requires.distinct c.loop-i.i k (omega arith) within (sym x ∙ sym same)) (inv.ahead k (omega arith) within);
    }
