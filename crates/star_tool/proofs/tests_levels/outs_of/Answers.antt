use Rattle.std.proofs.Common.{◌+◌, take, sym, subst}
use Rattle.std.specs.List.{AllZip}
use Rattle.star_lists.proofs.Zips.{AllZip-take_more}
use Rattle.layer_walk.specs.Outs.{IsOut}
use Rattle.star_tool.proofs.tests_levels.outs_of.Goals as goal

pub loop-group-preserved : goal.loop-group-preserved
loop-group-preserved c =
    let IsHere = IsOut c.args.level.now in
    let items = c.as_slice-group-items.result.now in
    let i = c.loop-group.group-index in
    subst (AllZip IsHere (take (i + 1) items)) (sym c.in_ok-push.ensures.items)
    (AllZip-take_more IsHere items c.loop-group.outs.items i c.group-item.result c.in_ok-open_group.field-0 c.loop-group-test.true c.group-item.is c.loop-group.invariant c.in_ok-open_group.ensures)
