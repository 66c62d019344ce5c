use Rattle.std.proofs.Common.{◌≡◌, ◌+◌, ◌++◌, ◌∷◌, [], arith, ap, ◌∙◌, sym, subst}
use Rattle.layer_walk.specs.Seen.{WalkView}
use Rattle.layer_walk.specs.Standing.{StandsFor}
use Rattle.layer_walk.proofs.Firsts.{few_views, takes_row, takes_refused}
use Rattle.layer_walk.proofs.walk.Walk.take.Goals as goal
use Rattle.layer_walk.proofs.walk.Walk.take.Goals.{in-Ok+in_ok-add_headed-in-Ok, in-Err+in_ok-push-in-Err}

pub add_headed-requires : goal.add_headed-requires
add_headed-requires c =
    let s = c.self.inside in
    let old : WalkView = record { epoch = s.epoch; taken = s.taken; rows = s.rows; refusals = s.refusals } in
    let seen : c.args.self.now ≡ old = cc c.self.view_is in
    let count : c.args.self.now.taken ≡ s.taken = ap (λ (v : WalkView). v.taken) seen in
    omega (arith, few_views _ c.self.invariant.records c.self.invariant.stands, count, c.requires)

pub returns-clause-stands : goal.returns-clause-stands
returns-clause-stands c records stands =
    let s = c.self.inside in
    let old : WalkView = record { epoch = s.epoch; taken = s.taken; rows = s.rows; refusals = s.refusals } in
    let seen : c.args.self.now ≡ old = cc c.self.view_is in
    elim c.match-first_row.branch [
      | in-Ok+in_ok-add_headed-in-Ok w ↦
          takes_row old _ c.args.item w.in-Ok.row (sym c.first_row.ensures ∙ w.in-Ok.is)
          ((λ i. record { epoch = (w.self-inside-is i).epoch; taken = (w.self-inside-is i).taken + 1; rows = (w.self-inside-is i).rows; refusals = (w.self-inside-is i).refusals })
          ∙ ap (λ l. record { epoch = s.epoch; taken = s.taken + 1; rows = l; refusals = s.refusals }) w.in_ok-add_headed-in-Ok.ensures.added)
          records (subst (λ v. StandsFor v records) seen stands)
      | in-Err+in_ok-push-in-Err w ↦
          takes_refused old _ c.args.item w.in-Err.why (sym c.first_row.ensures ∙ w.in-Err.is)
          ((λ i. record { epoch = (w.self-inside-is i).epoch; taken = (w.self-inside-is i).taken + 1; rows = (w.self-inside-is i).rows; refusals = (w.self-inside-is i).refusals })
          ∙ ap (λ l. record { epoch = s.epoch; taken = s.taken + 1; rows = s.rows; refusals = l }) w.in_ok-push-in-Err.ensures.added)
          records (subst (λ v. StandsFor v records) seen stands)
    ]

pub invariant_of-self-2 : goal.invariant_of-self-2
invariant_of-self-2 c =
    let s = c.self.inside in
    let old : WalkView = record { epoch = s.epoch; taken = s.taken; rows = s.rows; refusals = s.refusals } in
    let seen : c.args.self.now ≡ old = cc c.self.view_is in
    let count : c.args.self.now.taken ≡ s.taken = ap (λ (v : WalkView). v.taken) seen in
    record {
      records = c.self.invariant.records ++ c.args.item ∷ [];
      stands = returns-clause-stands c c.self.invariant.records (subst (λ v. StandsFor v c.self.invariant.records) (sym seen) c.self.invariant.stands);
      few = elim c.match-first_row.branch [
        | in-Ok+in_ok-add_headed-in-Ok w ↦ omega (arith, ap (λ v. v.taken) w.self-inside-is, c.requires)
        | in-Err+in_ok-push-in-Err w ↦ omega (arith, ap (λ v. v.taken) w.self-inside-is, c.requires)
      ];
    }
