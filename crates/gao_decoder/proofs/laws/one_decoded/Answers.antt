use Rattle.gao_decoder.proofs.Decoded.{one_decoded}
use Rattle.gao_decoder.proofs.laws.one_decoded.Goals as goal

pub returns : goal.returns
returns c = one_decoded
