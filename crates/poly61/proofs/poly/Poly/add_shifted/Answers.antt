use Rattle.std.proofs.Common.{◌∙◌, ap}
use Rattle.field61.specs.Field.{field_sum, field_product, field_negative, field_power}
use Rattle.field61.proofs.FieldLaws.{product_below, one_product}
use Rattle.poly61.specs.Poly.{value}
use Rattle.poly61.proofs.Elements.{minus_minus}
use Rattle.poly61.proofs.Values.{TakesOff-value}
use Rattle.poly61.proofs.poly.Poly.add_shifted.Goals as goal

pub returns : goal.returns
returns c _ z =
    TakesOff-value c.args.self.now c.take_off.new.self c.neg.result c.args.shift c.args.other.now z c.know.ensures c.take_off.ensures.taken
    ∙ ap (λ n. field_sum (value c.args.self.now z) (field_product n (field_product (field_power z c.args.shift) (value c.args.other.now z)))) (ap field_negative c.neg.ensures.negative ∙ minus_minus)
    ∙ ap (field_sum (value c.args.self.now z)) (one_product _ (product_below (field_power z c.args.shift) (value c.args.other.now z)))
