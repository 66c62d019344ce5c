use Rattle.std.proofs.Common.{arith, ℕ, ◌≡◌, ◌/◌, ◌-◌, ◌∙◌, sym, ap, ap₂}
use Rattle.std.proofs.lemmas.Grind.{common_steps}
use Rattle.field61.specs.Field.{field_product, field_power}
use Rattle.field61.proofs.FieldLaws.{power_zero, power_next, product_one}
use Rattle.poly61.proofs.Elements.{power-suc}
use Rattle.poly61.proofs.Halves.{power-plus}
use Rattle.poly61.proofs.blocks.fill_powers.Goals as goal

pub loop-i-init : goal.loop-i-init
loop-i-init c =
    let x : ℕ = c.args.x in
    let none : field_power x 0 ≡ 1 = power_zero x in
    let one : field_power x 1 ≡ x = power-suc x 0 ∙ ap (field_product x) none ∙ product_one x c.know_element.ensures in
    grind (arith, common_steps)

pub loop-i-preserved : goal.loop-i-preserved
loop-i-preserved c =
    let x : ℕ = c.args.x in
    let i : ℕ = c.loop-i.i in
    let old = c.loop-i.invariant in
    let low : c.index-powers-i.result ≡ field_power x (i / 2) = grind (arith, common_steps) in
    let high : c.index-powers-i-in-loop-i.result ≡ field_power x (i - i / 2) = grind (arith, common_steps) in
    let now : c.mul.result ≡ field_power x i = c.mul.ensures.product ∙ ap₂ field_product low high ∙ sym (power-plus x (i / 2) (i - i / 2)) ∙ ap (field_power x) (omega arith) in
    grind (arith, common_steps)

pub returns-clause-top : goal.returns-clause-top
returns-clause-top c =
    let x : ℕ = c.args.x in
    let old = c.loop-i.invariant in
    let last : c.index-powers-31.result ≡ field_power x 31 = grind (arith, common_steps) in
    c.mul-2.ensures.product ∙ ap (λ p. field_product p x) last ∙ sym (power_next x 31)
