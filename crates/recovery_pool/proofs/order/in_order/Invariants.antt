use Rattle.std.proofs.Common.{vec_len}
use Rattle.recovery_pool.specs.Answers.{AnswersEach}
use Rattle.recovery_pool.proofs.Ordered.{Placing, Taking}
use Rattle.recovery_pool.proofs.order.in_order.Given as goal

abbrev pub invariant-loop-entry : goal.invariant-loop-entry
invariant-loop-entry g l = Placing (g.J.Job.answers l.jobs) l.count l.places.items l.entries.items

abbrev pub decreases-loop-entry : goal.decreases-loop-entry
decreases-loop-entry g l = vec_len l.entries

abbrev pub invariant-loop-k : goal.invariant-loop-k
invariant-loop-k g l =
    record { taking : Taking (g.J.Job.answers l.jobs) l.count l.k l.places.items; taken : AnswersEach (g.J.Job.answers l.jobs) l.k l.outs.items }
