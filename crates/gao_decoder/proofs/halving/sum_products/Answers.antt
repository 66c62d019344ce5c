use Rattle.std.proofs.Common.{◌∙◌, refl, ap}
use Rattle.field61.specs.Field.{field_sum, field_product}
use Rattle.field61.proofs.FieldLaws.{zero_sum, product_below}
use Rattle.poly61.specs.Poly.{value}
use Rattle.poly61.proofs.Values.{value-zero}
use Rattle.gao_decoder.proofs.halving.sum_products.Goals as goal

pub returns : goal.returns
returns c t z =
    let f = field_product (value c.args.f.now z) (value c.args.g.now z) in
    let h = field_product (value c.args.h.now z) (value c.args.l.now z) in
    c.add-2.ensures t z ∙ ap (λ y. field_sum y (field_product (value c.args.h.now z) (value c.args.l.now z))) (c.if-not-add.ensures refl z
    ∙ ap (λ y. field_sum y (field_product (value c.args.f.now z) (value c.args.g.now z))) (value-zero c.clear.new.self z c.clear.ensures.zero) ∙ zero_sum _ (product_below _ _))
