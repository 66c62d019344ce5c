use Rattle.shamir_limbs.proofs.KeyLines.{one_key_line}
use Rattle.shamir_limbs.proofs.laws.one_key_line.Goals as goal

pub returns : goal.returns
returns c = one_key_line
