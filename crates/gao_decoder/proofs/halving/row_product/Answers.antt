use Rattle.std.proofs.Common.{refl}
use Rattle.gao_decoder.proofs.Rows.{row_at-product}
use Rattle.gao_decoder.proofs.halving.row_product.Goals as goal

pub returns : goal.returns
returns c t x a b =
    row_at-product c.sum_products.new.out c.sum_products-2.new.out c.args.row.now.v c.args.row.now.r c.args.rows.now.a.v c.args.rows.now.a.r c.args.rows.now.b.v c.args.rows.now.b.r x a b
    (c.if-not-sum_products.ensures refl) (c.sum_products-2.ensures t)
