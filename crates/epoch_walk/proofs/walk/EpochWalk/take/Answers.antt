use Rattle.std.proofs.Common.{◌≡◌, ◌+◌, ◌-◌, ◌^◌, ◌++◌, ◌∷◌, [], arith, ap, ◌∙◌, sym, subst}
use Rattle.epoch_walk.specs.Seen.{EpochWalkView}
use Rattle.epoch_walk.specs.Standing.{StandsFor}
use Rattle.epoch_walk.proofs.Taking.{takes_report, takes_stray, room}
use Rattle.epoch_walk.proofs.walk.EpochWalk.take.Goals as goal
use Rattle.epoch_walk.proofs.walk.EpochWalk.take.Goals.{in-Ok+in_ok-hand-in-Ok, in-Err+in_ok-keep-in-Err}

pub hand-requires : goal.hand-requires
hand-requires c =
    let s = c.self.inside in
    let count : s.taken ≡ c.args.self.now.taken = ap (λ (v : EpochWalkView). v.taken) c.self.view_is in
    room s.taken (2 ^ 32 - 1) s.walks s.strays c.self.invariant.records c.self.invariant.stands (omega (arith, count, c.requires)) c.in-Ok.epoch

pub returns-clause-stands : goal.returns-clause-stands
returns-clause-stands c records stands =
    let s = c.self.inside in
    let old : EpochWalkView = record { taken = s.taken; walks = s.walks.entries; strays = s.strays } in
    let seen : c.args.self.now ≡ old = sym c.self.view_is in
    let before : StandsFor old records = subst (λ v. StandsFor v records) seen stands in
    elim c.match-epoch_of.branch [
      | in-Ok+in_ok-hand-in-Ok w ↦
          subst (λ (v : EpochWalkView). StandsFor v (records ++ c.args.item ∷ []))
          (sym (λ i. record { taken = (w.self-inside-is i).taken + 1; walks = (w.self-inside-is i).walks.entries; strays = (w.self-inside-is i).strays }))
          (takes_report s.taken s.walks w.hand.new.walks s.strays c.args.item w.in-Ok.epoch (sym c.epoch_of.ensures ∙ w.in-Ok.is) w.hand.ensures.ordered w.in_ok-hand-in-Ok.ensures.here w.in_ok-hand-in-Ok.ensures.elsewhere records before)
      | in-Err+in_ok-keep-in-Err w ↦
          subst (λ (v : EpochWalkView). StandsFor v (records ++ c.args.item ∷ []))
          (sym ((λ i. record { taken = (w.self-inside-is i).taken + 1; walks = (w.self-inside-is i).walks.entries; strays = (w.self-inside-is i).strays })
          ∙ ap (λ l. record { taken = s.taken + 1; walks = s.walks.entries; strays = l }) w.in_ok-keep-in-Err.ensures.added))
          (takes_stray s.taken s.walks.entries s.strays c.args.item w.in-Err.why (sym c.epoch_of.ensures ∙ w.in-Err.is) records before)
    ]

pub invariant_of-self-2 : goal.invariant_of-self-2
invariant_of-self-2 c =
    let s = c.self.inside in
    let old : EpochWalkView = record { taken = s.taken; walks = s.walks.entries; strays = s.strays } in
    let seen : c.args.self.now ≡ old = sym c.self.view_is in
    let count : c.args.self.now.taken ≡ s.taken = ap (λ (v : EpochWalkView). v.taken) seen in
    record {
      records = c.self.invariant.records ++ c.args.item ∷ [];
      stands = returns-clause-stands c c.self.invariant.records (subst (λ v. StandsFor v c.self.invariant.records) (sym seen) c.self.invariant.stands);
      few = elim c.match-epoch_of.branch [
        | in-Ok+in_ok-hand-in-Ok w ↦ omega (arith, ap (λ v. v.taken) w.self-inside-is, c.requires)
        | in-Err+in_ok-keep-in-Err w ↦ omega (arith, ap (λ v. v.taken) w.self-inside-is, c.requires)
      ];
    }
