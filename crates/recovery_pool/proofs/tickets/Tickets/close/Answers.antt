use Rattle.std.proofs.Common.{◌≡◌, arith, ◌∙◌, ap, subst, true}
use Rattle.recovery_pool.specs.Standing.{HasEachOnce}
use Rattle.recovery_pool.proofs.RuleKept.{closes}
use Rattle.recovery_pool.proofs.tickets.Tickets.close.Goals as goal

pub returns : goal.returns
returns c =
    let s = c.self.invariant in
    let spent : c.pass.inside.seat.me.0.spent ≡ true = ap (λ x. x.spent) c.pass.view_is ∙ c.requires.spent in
    let share : c.pass.inside.seat.me.0.share ≡ c.args.pass.share = ap (λ x. x.share) c.pass.view_is in
    let workers : c.self.inside.workers ≡ c.args.self.workers = ap (λ x. x.workers) c.self.view_is in
    let jobs : c.self.inside.table.shared.key.jobs ≡ c.args.self.id.jobs = s.same_jobs ∙ ap (λ x. x.id.jobs) c.self.view_is in
    let drawn = ap (λ x. x.drawn) c.pass.view_is in
    let all : HasEachOnce c.self.inside.table.shared.key.jobs c.pass.inside.seat.me.0.drawn =
    closes _ _ _ _ _ _ (omega (arith, share, workers, c.requires.whole, s.same_workers)) (omega (arith, s.same_workers, s.some_workers)) spent c.close_with.ensures.values.2 in
    subst (HasEachOnce c.args.self.id.jobs) drawn (subst (λ n. HasEachOnce n c.pass.inside.seat.me.0.drawn) jobs all)
