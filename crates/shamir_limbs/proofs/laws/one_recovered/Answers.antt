use Rattle.shamir_limbs.proofs.LineSearch.{one_recovered}
use Rattle.shamir_limbs.proofs.laws.one_recovered.Goals as goal

pub returns : goal.returns
returns c = one_recovered
