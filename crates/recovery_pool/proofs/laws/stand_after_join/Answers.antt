use Rattle.recovery_pool.proofs.RuleKept.{join_so}
use Rattle.recovery_pool.proofs.laws.stand_after_join.Goals as goal

pub returns : goal.returns
returns c word jobs workers k other views v w h at mine theirs apart there = join_so word jobs workers k views v other w h at mine theirs apart there
