use Rattle.std.proofs.Common.{◌≡◌, arith, ◌∙◌, ap, sym, rules, false}
use Rattle.recovery_pool.proofs.RuleKept.{draws}
use Rattle.recovery_pool.proofs.tickets.Tickets.draw_ticket.Goals as goal

pub fetch_add-found-requires : goal.fetch_add-found-requires
fetch_add-found-requires c =
    let t = c.self.invariant in
    let p = c.pass.invariant in
    let live : c.pass.inside.seat.me.0.spent ≡ false = ap (λ x. x.spent) c.pass.view_is ∙ c.requires.live in (
      ap (λ x. x.of.table) c.pass.view_is ∙ (ap (λ x. x.table) c.requires.belongs ∙ sym (ap (λ x. x.id.table) c.self.view_is)),
      search rules,
      draws _ _ _ _ _ (omega (arith, t.same_jobs, t.few_jobs)) (omega (arith, t.same_workers, t.few_workers)) (omega (arith, p.same_share, p.some_share)) live,
    )
