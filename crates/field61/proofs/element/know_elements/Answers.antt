use Rattle.std.proofs.Common.{ℕ, ◌<◌, subst}
use Rattle.std.proofs.lemmas.List.{take_all}
use Rattle.std.proofs.lemmas.List.Elements.{All-more}
use Rattle.field61.specs.declared.TheConstants.{MODULUS}
use Rattle.field61.specs.Field.{AreElements}
use Rattle.field61.proofs.element.know_elements.Goals as goal

pub loop-element-preserved : goal.loop-element-preserved
loop-element-preserved c =
    All-more (λ x. x < MODULUS) c.args.elements.now c.loop-element.element-index c.element-item.result c.loop-element-test.true c.loop-element.invariant
    (subst (λ (x : ℕ). x < MODULUS) c.element-item.is c.know_element.ensures)

pub returns : goal.returns
returns c = subst AreElements (take_all c.loop-element.element-index c.args.elements.now c.loop-element-test.false) c.loop-element.invariant
