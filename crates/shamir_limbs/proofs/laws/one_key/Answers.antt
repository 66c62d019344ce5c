use Rattle.shamir_limbs.proofs.LimbLaws.{one_key}
use Rattle.shamir_limbs.proofs.laws.one_key.Goals as goal

pub returns : goal.returns
returns c = one_key
