use Rattle.std.proofs.Common.{arith, ℕ, ◌≡◌, ◌+◌, ◌-◌, ◌*◌, ◌/◌, ◌∙◌, sym, ap, get_or}
use Rattle.field61.specs.Field.{field_sum, field_product}
use Rattle.poly61.proofs.Places.{value_to, value_to-same}
use Rattle.poly61.proofs.Lists.{coefficient_of, AreElements-bounded, value-places}
use Rattle.poly61.proofs.Convolution.{value_to-split, powers_value}
use Rattle.poly61.proofs.blocks.value_in_blocks.Goals as goal

pub loop-block-init : goal.loop-block-init
loop-block-init c =
    let w : ℕ = c.args.places / 32 in
    record {
      sum = c.sum_of_products-sum.ensures.sum ∙ powers_value _ (λ i. get_or c.args.coefficients.now (32 * w + i) 0) (λ i. get_or c.args.powers.now (0 + i) 0) c.args.x (λ i. AreElements-bounded c.args.coefficients.now c.requires.elements (32 * w + i)) (λ i h. ap (λ j. get_or c.args.powers.now j 0) (omega arith) ∙ c.requires.powers i (omega (arith, c.requires.many)));
      below = c.sum_of_products-sum.ensures.below;
    }

pub loop-block-preserved : goal.loop-block-preserved
loop-block-preserved c =
    let f : ℕ → ℕ = coefficient_of c.args.coefficients.now in
    let b : ℕ = c.loop-block.block - 1 in
    let next : c.loop-block.block ≡ b + 1 = omega arith in
    let rest : ℕ = c.args.places - 32 * c.loop-block.block in
    let many : c.args.places - 32 * b ≡ 32 + rest = omega (arith, next) in
    let first : c.sum_of_products.result ≡ value_to 32 (λ i. f (32 * b + i)) c.args.x =
    c.sum_of_products.ensures.sum ∙ powers_value 32 (λ i. f (32 * b + i)) (λ i. get_or c.args.powers.now (0 + i) 0) c.args.x (λ i. AreElements-bounded c.args.coefficients.now c.requires.elements (32 * b + i)) (λ i h. ap (λ j. get_or c.args.powers.now j 0) (omega arith) ∙ c.requires.powers i (omega (arith, h, c.requires.many))) in
    let later : c.loop-block.sum ≡ value_to rest (λ i. f (32 * b + (32 + i))) c.args.x =
    c.loop-block.invariant.sum ∙ value_to-same rest _ (λ i. f (32 * b + (32 + i))) c.args.x (λ i _. ap f (omega (arith, next))) in
    record {
      sum = c.add-sum.ensures.sum ∙ ap (λ y. field_sum y c.mul.result) first ∙ ap (field_sum (value_to 32 (λ i. f (32 * b + i)) c.args.x)) (c.mul.ensures.product ∙ ap (field_product c.args.top) later ∙ ap (λ t. field_product t (value_to rest (λ i. f (32 * b + (32 + i))) c.args.x)) c.requires.top)
          ∙ sym (value_to-split 32 rest (λ i. f (32 * b + i)) c.args.x) ∙ ap (λ n. value_to n (λ i. f (32 * b + i)) c.args.x) (sym many);
      below = c.add-sum.ensures.below;
    }

pub returns-clause-value : goal.returns-clause-value
returns-clause-value c =
    let f : ℕ → ℕ = coefficient_of c.args.coefficients.now in
    let end : c.loop-block.block ≡ 0 = omega arith in
    c.loop-block.invariant.sum ∙ ap (λ n. value_to n (λ i. f (32 * c.loop-block.block + i)) c.args.x) {x = c.args.places - 32 * c.loop-block.block} {y = c.args.places} (omega (arith, end))
    ∙ value_to-same c.args.places (λ i. f (32 * c.loop-block.block + i)) f c.args.x (λ i _. ap f (omega (arith, end))) ∙ sym (value-places c.args.places c.args.coefficients.now c.args.x c.requires.below)

pub returns-clause-below : goal.returns-clause-below
returns-clause-below c = c.loop-block.invariant.below
