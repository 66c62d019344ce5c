use Rattle.std.proofs.Common.{arith, ℕ, ◌≡◌, ◌+◌, ◌-◌, ◌*◌, ◌∙◌, sym, ap, get_or}
use Rattle.field61.specs.Field.{field_sum, field_product}
use Rattle.field61.specs.Sums.{field_total}
use Rattle.field61.proofs.Totals.{field_total-split, field_total-same}
use Rattle.field61.proofs.sums.sum_of_products.Goals as goal

pub loop-block-preserved : goal.loop-block-preserved
loop-block-preserved c =
    let f : ℕ → ℕ = λ i. get_or c.args.a.now i 0 in
    let g : ℕ → ℕ = λ i. get_or c.args.b.now i 0 in
    let inv = c.loop-block.invariant in
    let b : ℕ = c.loop-block.block - 1 in
    let next : c.loop-block.block ≡ b + 1 = omega arith in
    let rest : ℕ = c.args.n - 64 * c.loop-block.block in
    let term : ℕ → ℕ = λ i. field_product (f (c.args.from + 64 * b + i)) (g (c.args.other + 64 * b + i)) in
    let split : field_total (64 + rest) term ≡ field_sum (field_total 64 term) (field_total rest (λ i. term (64 + i))) = field_total-split 64 rest term in
    let many : c.args.n - 64 * b ≡ 64 + rest = omega (arith, next) in
    let later : c.loop-block.sum ≡ field_total rest (λ i. term (64 + i)) =
    inv.sum ∙ field_total-same rest _ (λ i. term (64 + i)) (λ i _. ap (λ j. field_product (f j) (g (c.args.other + 64 * c.loop-block.block + i))) {x = c.args.from + 64 * c.loop-block.block + i} {y = c.args.from + 64 * b + (64 + i)} (omega (arith, next))
    ∙ ap (λ j. field_product (f (c.args.from + 64 * b + (64 + i))) (g j)) {x = c.args.other + 64 * c.loop-block.block + i} {y = c.args.other + 64 * b + (64 + i)} (omega (arith, next))) in
    record {
      sum = c.add-sum.ensures.sum ∙ ap (field_sum c.few_products.result) later ∙ ap (λ s. field_sum s (field_total rest (λ i. term (64 + i)))) c.few_products.ensures.sum ∙ sym split ∙ ap (λ n. field_total n term) (sym many);
      below = c.add-sum.ensures.below;
    }
