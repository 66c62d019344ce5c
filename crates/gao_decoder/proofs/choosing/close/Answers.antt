use Rattle.std.proofs.Common.{◌∙◌}
use Rattle.gao_decoder.proofs.Decoded.{nonzero_enough, decoded_is}
use Rattle.gao_decoder.proofs.choosing.close.Goals as goal

pub choose-requires-clause-many : goal.choose-requires-clause-many
choose-requires-clause-many c =
    nonzero_enough c.args.problem.now c.args.remainder.now c.args.cofactor.now c.args.degree c.know_elements.ensures c.know-2.ensures c.requires.stopped

pub returns-clause-only : goal.returns-clause-only
returns-clause-only c f d i =
    let is = decoded_is c.args.problem.now c.args.remainder.now c.args.cofactor.now c.choose.new.candidate f c.args.degree c.know_elements.ensures
    c.know_elements-2.ensures c.know.ensures c.know-2.ensures c.know-3.ensures c.requires.stopped c.choose.ensures.below c.choose.ensures.only d in
    c.accept.ensures.same (c.accept.ensures.decoded.1 is.0) i ∙ is.1 i

pub returns-clause-complete : goal.returns-clause-complete
returns-clause-complete c f d =
    let is = decoded_is c.args.problem.now c.args.remainder.now c.args.cofactor.now c.choose.new.candidate f c.args.degree c.know_elements.ensures
    c.know_elements-2.ensures c.know.ensures c.know-2.ensures c.know-3.ensures c.requires.stopped c.choose.ensures.below c.choose.ensures.only d in
    c.accept.ensures.decoded.1 is.0
