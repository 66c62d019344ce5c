use Rattle.recovery_pool.proofs.RuleKept.{all_drawn_so}
use Rattle.recovery_pool.proofs.laws.all_drawn_at_last.Goals as goal

pub returns : goal.returns
returns c word jobs workers k views v h at some_share all spent = all_drawn_so word jobs workers k views v h at some_share all spent
