use Rattle.std.proofs.Common.{◌∙◌, get_or}
use Rattle.poly61.proofs.Lists.{value-same}
use Rattle.gao_decoder.proofs.Decoded.{decoded_through}
use Rattle.gao_decoder.proofs.decoder.decode_through.Goals as goal

pub returns-clause-passes : goal.returns-clause-passes
returns-clause-passes c found i within =
    value-same c.accept.new.out c.interpolate.new.self (get_or c.args.some_xs.now i 0) (c.accept.ensures.same found) ∙ c.interpolate.ensures.values i within

pub returns-clause-complete : goal.returns-clause-complete
returns-clause-complete c f d passes =
    c.accept.ensures.decoded.1 (decoded_through c.args.some_xs.now c.args.some_ys.now c.args.xs.now c.args.ys.now c.interpolate.new.self f c.know_elements.ensures c.requires.some_distinct c.know.ensures c.interpolate.ensures.below c.interpolate.ensures.values d passes)
