use Rattle.recovery_pool.proofs.RuleKept.{first_so}
use Rattle.recovery_pool.proofs.laws.stand_at_first.Goals as goal

pub returns : goal.returns
returns c jobs workers some_share = first_so jobs workers some_share
