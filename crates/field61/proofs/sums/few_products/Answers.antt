use Rattle.std.proofs.Common.{arith, ℕ, ◌≡◌, ◌≤◌, ◌+◌, ◌*◌, ◌%◌, ◌∙◌, refl, ap, get_or}
use Rattle.std.proofs.lemmas.Grind.{common_steps}
use Rattle.field61.specs.declared.TheConstants.{MODULUS}
use Rattle.field61.specs.Sums.{field_total}
use Rattle.field61.specs.Field.{field_product}
use Rattle.field61.proofs.Totals.{plain_total-push, product_bound, field_total-plain}
use Rattle.field61.proofs.sums.few_products.Goals as goal

pub loop-i-preserved : goal.loop-i-preserved
loop-i-preserved c =
    let a = c.args.a.now in
    let b = c.args.b.now in
    let inv = c.loop-i.invariant in
    let x : c.value.result ≡ get_or a (c.args.from + c.loop-i.i) 0 = c.value.ensures.same ∙ grind (arith, common_steps) in
    let y : c.value-in-loop-i.result ≡ get_or b (c.args.other + c.loop-i.i) 0 = c.value-in-loop-i.ensures.same ∙ grind (arith, common_steps) in
    let push = plain_total-push c.loop-i.i (λ i. get_or a (c.args.from + i) 0 * get_or b (c.args.other + i) 0) in
    let most : c.value.result * c.value-in-loop-i.result ≤ 5316911983139663487003542222693990400 = product_bound c.value.result c.value-in-loop-i.result c.value.ensures.below c.value-in-loop-i.ensures.below in
    record {
      total = rw (push, ← x, ← y, ← inv.total) refl;
      bound = omega (arith, inv.bound, most);
    }

pub returns-clause-sum : goal.returns-clause-sum
returns-clause-sum c =
    let end : c.loop-i.i ≡ c.args.n = omega arith in
    c.of_total.ensures.same ∙ ap (λ (t : ℕ). t % MODULUS) c.loop-i.invariant.total
    ∙ field_total-plain c.loop-i.i (λ i. get_or c.args.a.now (c.args.from + i) 0) (λ i. get_or c.args.b.now (c.args.other + i) 0)
    ∙ ap (λ n. field_total n (λ i. field_product (get_or c.args.a.now (c.args.from + i) 0) (get_or c.args.b.now (c.args.other + i) 0))) end
