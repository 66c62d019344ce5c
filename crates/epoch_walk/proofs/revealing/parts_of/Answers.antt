use Rattle.epoch_walk.proofs.Telling.{none_told, more_told, all_told}
use Rattle.epoch_walk.proofs.revealing.parts_of.Goals as goal

pub loop-epoch-init : goal.loop-epoch-init
loop-epoch-init g c = none_told c.args.walks.entries c.into_iter-epoch-iterator.result c.new-parts.result c.into_iter-epoch-iterator.ensures.into_iter_gives.0 c.new-parts.ensures

pub loop-epoch-preserved : goal.loop-epoch-preserved
loop-epoch-preserved g c =
    more_told c.args.walks.entries c.loop-epoch.epoch-iterator c.next.new.self c.loop-epoch.parts c.push.new.self c.in-Some.epoch c.in-Some.walk c.in_ok-reveal.reveal
    c.in-Some.ensures.steps c.in_ok-reveal.ensures c.in_ok-push.ensures.added c.loop-epoch.invariant

pub returns : goal.returns
returns g c = all_told c.args.walks.entries c.loop-epoch.epoch-iterator c.loop-epoch.parts c.in-None.ensures.steps.0 c.loop-epoch.invariant
