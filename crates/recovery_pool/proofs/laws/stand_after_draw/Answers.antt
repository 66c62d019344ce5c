use Rattle.recovery_pool.proofs.RuleKept.{drawn_so}
use Rattle.recovery_pool.proofs.laws.stand_after_draw.Goals as goal

pub returns : goal.returns
returns c word jobs workers k views v h at some_share live = drawn_so word jobs workers k views v h at some_share live
