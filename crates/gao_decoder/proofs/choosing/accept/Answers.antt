use Rattle.std.proofs.Common.{refl}
use Rattle.gao_decoder.proofs.Decoded.{decoded_copy}
use Rattle.gao_decoder.proofs.choosing.accept.Goals as goal

pub returns-clause-found : goal.returns-clause-found
returns-clause-found c _ =
    decoded_copy c.args.xs.now c.args.ys.now c.copy_from.new.self c.args.candidate.now c.args.k c.know.ensures c.copy_from.ensures.same (c.if-not-is_decoded.ensures.0 refl)
