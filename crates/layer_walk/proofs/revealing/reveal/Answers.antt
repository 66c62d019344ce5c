use Rattle.std.proofs.Common.{◌≡◌, ◌+◌, ◌++◌, ◌∷◌, [], take, arith, sym, ap, ◌∙◌, subst}
use Rattle.std.proofs.lemmas.List.{length-take, nil_from_length, take_all}
use Rattle.std.proofs.lemmas.Result.{IfOk-weaker}
use Rattle.star_lists.proofs.Mapped.{take-step}
use Rattle.layer_walk.specs.Standing.{StandsFor}
use Rattle.layer_walk.specs.Reveal.{reveal_of}
use Rattle.layer_walk.proofs.revealing.reveal.Goals as goal

pub loop-item-init : goal.loop-item-init
loop-item-init g c = record { epoch = c.new-walk.ensures.epoch; stands = subst (StandsFor c.new-walk.result) (sym (nil_from_length (take 0 c.args.records.now) (omega (arith, length-take 0 c.args.records.now)))) c.new-walk.ensures.stands }

pub take-requires : goal.take-requires
take-requires g c = omega (arith, c.loop-item.invariant.stands.taken, length-take c.loop-item.item-index c.args.records.now, c.loop-item-test.true, c.requires.records)

pub loop-item-preserved : goal.loop-item-preserved
loop-item-preserved g c =
    let records = c.args.records.now in
    let i = c.loop-item.item-index in
    let item = c.item-item.result in
    let grown : take i records ++ c.in_ok-copy_record.field-0 ∷ [] ≡ take (i + 1) records =
    ap (λ r. take i records ++ r ∷ []) c.in_ok-copy_record.ensures ∙ sym (take-step records i item c.loop-item-test.true c.item-item.is) in
    record {
      epoch = c.in_ok-take.ensures.epoch ∙ c.loop-item.invariant.epoch;
      stands = subst (StandsFor c.take.new.self) grown (c.in_ok-take.ensures.stands (take i records) c.loop-item.invariant.stands);
    }

pub returns : goal.returns
returns g c =
    let records = c.args.records.now in
    let stands : StandsFor c.loop-item.walk records = subst (StandsFor c.loop-item.walk) (take_all c.loop-item.item-index records (omega (arith, c.loop-item-test.false))) c.loop-item.invariant.stands in
    IfOk-weaker c.finish.result _ _ (λ told is. is ∙ ap (λ e. reveal_of e records) c.loop-item.invariant.epoch) (c.finish.ensures records stands)
