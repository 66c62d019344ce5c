use Rattle.std.proofs.Common.{◌∙◌, ap}
use Rattle.field61.specs.Field.{field_sum, field_product, field_negative}
use Rattle.field61.proofs.FieldLaws.{power_zero, one_product}
use Rattle.poly61.specs.Poly.{value}
use Rattle.poly61.proofs.Lists.{value-below}
use Rattle.poly61.proofs.Values.{TakesOff-value}
use Rattle.poly61.proofs.poly.Poly.subtract.Goals as goal

pub returns : goal.returns
returns c _ z =
    TakesOff-value c.args.self.now c.take_off.new.self 1 0 c.args.other.now z c.know.ensures c.take_off.ensures.taken
    ∙ ap (λ y. field_sum (value c.args.self.now z) (field_product (field_negative 1) y)) (ap (λ p. field_product p (value c.args.other.now z)) (power_zero z) ∙ one_product _ (value-below c.args.other.now z))
