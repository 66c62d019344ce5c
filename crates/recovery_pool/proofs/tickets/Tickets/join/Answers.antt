use Rattle.std.proofs.Common.{arith, ◌∙◌, ap, sym, rules}
use Rattle.recovery_pool.proofs.RuleKept.{joins, looks}
use Rattle.recovery_pool.proofs.tickets.Tickets.join.Goals as goal

pub join_seat-requires : goal.join_seat-requires
join_seat-requires c =
    let p = c.pass.invariant in
    let o = c.other.invariant in
    let here = sym (ap (λ x. x.id.table) c.self.view_is) in (
      ap (λ x. x.of.table) c.pass.view_is ∙ (ap (λ x. x.table) c.requires.belongs ∙ here),
      ap (λ x. x.of.table) c.other.view_is ∙ (ap (λ x. x.table) c.requires.other ∙ here),
      o.no_slots,
      search rules,
      joins _ _ _ _ _ _ (omega (arith, p.same_share, p.some_share)) (omega (arith, o.same_share, o.some_share)),
    )

pub load-requires : goal.load-requires
load-requires c =
    let t = c.self.invariant in
    let here = sym (ap (λ x. x.id.table) c.self.view_is) in (
      c.join_seat.ensures.0 ∙ (ap (λ x. x.of.table) c.pass.view_is ∙ (ap (λ x. x.table) c.requires.belongs ∙ here)),
      search rules,
      looks _ _ _ _ _ (omega (arith, t.same_workers, t.few_workers)),
    )
