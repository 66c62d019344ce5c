use Rattle.std.proofs.Common.{arith, ◌∙◌}
use Rattle.poly61.proofs.Convolution.{adds_product}
use Rattle.poly61.proofs.blocks.add_product_all.Goals as goal

pub places_of-requires-clause-below : goal.places_of-requires-clause-below
places_of-requires-clause-below c i past = c.add_columns.ensures.rest i (omega arith) ∙ c.requires.below i (omega arith)

pub returns-clause-product : goal.returns-clause-product
returns-clause-product c = adds_product c.args.out.now c.add_columns.new.out c.args.f.now c.args.g.now c.args.n c.args.m c.requires.others c.requires.elements c.requires.first_below c.requires.second_below c.add_columns.ensures.sum c.add_columns.ensures.rest
