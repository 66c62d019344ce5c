use Rattle.recovery_pool.proofs.Ordered.{same_answers}
use Rattle.recovery_pool.proofs.laws.one_list.Goals as goal

pub returns : goal.returns
returns g c jobs xs ys one a b = same_answers _ _ xs ys one a b
