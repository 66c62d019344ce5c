use Rattle.recovery_pool.proofs.RuleKept.{split_so}
use Rattle.recovery_pool.proofs.laws.stand_after_split.Goals as goal

pub returns : goal.returns
returns c word jobs workers k part views v h at some_part less live = split_so word jobs workers k part views v h at some_part less live
