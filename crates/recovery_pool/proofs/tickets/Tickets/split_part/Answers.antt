use Rattle.std.proofs.Common.{◌≡◌, arith, ◌∙◌, ap, sym, rules, false}
use Rattle.recovery_pool.proofs.RuleKept.{splits}
use Rattle.recovery_pool.proofs.tickets.Tickets.split_part.Goals as goal

pub split_seat-seat-requires : goal.split_seat-seat-requires
split_seat-seat-requires g c =
    let p = c.pass.invariant in
    let live : c.pass.inside.seat.me.0.spent ≡ false = ap (λ x. x.spent) c.pass.view_is ∙ c.requires.live in
    let share : c.pass.inside.seat.me.0.share ≡ c.args.pass.now.share = ap (λ x. x.share) c.pass.view_is in (
      ap (λ x. x.of.table) c.pass.view_is ∙ (ap (λ x. x.table) c.requires.belongs ∙ sym (ap (λ x. x.id.table) c.self.view_is)),
      search rules,
      splits _ _ _ _ _ (omega (arith, c.requires.picked, c.requires.share)) (omega (arith, share, c.requires.picked, c.requires.share)) live,
    )
