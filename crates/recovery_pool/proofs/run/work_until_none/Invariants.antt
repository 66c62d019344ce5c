use Rattle.std.proofs.Common.{◌≡◌, ◌-◌, length, false}
use Rattle.recovery_pool.specs.Answers.{AnswersDrawn}
use Rattle.recovery_pool.proofs.run.work_until_none.Given as goal

abbrev pub invariant-loop-ticket : goal.invariant-loop-ticket
invariant-loop-ticket g l =
    record {
      belongs : l.pass.of ≡ l.crew.tickets.now.id;
      live : l.pass.spent ≡ false;
      share : l.pass.share ≡ l.fn.pass.share;
      answered : AnswersDrawn (g.J.Job.answers l.crew.jobs.now) l.pass.drawn l.entries.items;
    }

abbrev pub decreases-loop-ticket : goal.decreases-loop-ticket
decreases-loop-ticket g l = l.crew.tickets.now.id.jobs - length l.pass.drawn
