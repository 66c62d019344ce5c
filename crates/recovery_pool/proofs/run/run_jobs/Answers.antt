use Rattle.std.proofs.Common.{arith}
use Rattle.std.proofs.lemmas.Result.{IfOk-weaker}
use Rattle.recovery_pool.proofs.run.run_jobs.Goals as goal

pub returns-clause-each : goal.returns-clause-each
returns-clause-each g c = IfOk-weaker c.in_order.result _ _ (λ v h i d l. h.each i d (omega (arith, c.count-count.ensures))) c.in_order.ensures
