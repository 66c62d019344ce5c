use Rattle.std.proofs.Common.{arith, sym, ◌∙◌}
use Rattle.std.proofs.lemmas.List.{nil_from_length}
use Rattle.report_frame.specs.declared.limits.TheConstants.{MAX_LAYERS}
use Rattle.layer_walk.proofs.Fits.{groups_fit, groups_few}
use Rattle.layer_walk.proofs.SoFar.{none_done, one_more, ends_early}
use Rattle.layer_walk.proofs.levels.told_from.Goals as goal

pub loop-done-init : goal.loop-done-init
loop-done-init g c = record {
  so_far = none_done c.args.first.level c.args.refusals _ c.requires.first c.requires.number c.new.ensures.items c.new-2.ensures c.into_vec.ensures c.new-3.ensures.items;
  groups = c.requires.groups;
}

pub returns-then-len-eq0-clause-groups : goal.returns-then-len-eq0-clause-groups
returns-then-len-eq0-clause-groups g c = (ends_early _ _ _ _ MAX_LAYERS _ _ c.loop-done.invariant.so_far (nil_from_length _ (sym c.len.ensures ∙ c.if-len-eq0.true)) (omega (arith, c.loop-done-test.true))).groups

pub returns-then-len-eq0-clause-levels : goal.returns-then-len-eq0-clause-levels
returns-then-len-eq0-clause-levels g c = (ends_early _ _ _ _ MAX_LAYERS _ _ c.loop-done.invariant.so_far (nil_from_length _ (sym c.len.ensures ∙ c.if-len-eq0.true)) (omega (arith, c.loop-done-test.true))).levels

pub returns-then-len-eq0-clause-refusals : goal.returns-then-len-eq0-clause-refusals
returns-then-len-eq0-clause-refusals g c = (ends_early _ _ _ _ MAX_LAYERS _ _ c.loop-done.invariant.so_far (nil_from_length _ (sym c.len.ensures ∙ c.if-len-eq0.true)) (omega (arith, c.loop-done-test.true))).refusals

pub returns-then-len-eq0-clause-aux : goal.returns-then-len-eq0-clause-aux
returns-then-len-eq0-clause-aux g c = (ends_early _ _ _ _ MAX_LAYERS _ _ c.loop-done.invariant.so_far (nil_from_length _ (sym c.len.ensures ∙ c.if-len-eq0.true)) (omega (arith, c.loop-done-test.true))).aux

pub outs_of-requires-clause-fits : goal.outs_of-requires-clause-fits
outs_of-requires-clause-fits g c κs within =
    groups_fit c.loop-done.here.level c.loop-done.here.groups c.loop-done.invariant.so_far.good (omega (arith, c.loop-done.invariant.so_far.number, c.loop-done-test.true)) c.loop-done.invariant.groups

pub outs_of-requires-clause-few : goal.outs_of-requires-clause-few
outs_of-requires-clause-few g c κs within =
    omega (arith, groups_few c.loop-done.here.level.rows c.loop-done.here.groups c.loop-done.invariant.groups, c.loop-done.invariant.so_far.good.few)

pub loop-done-preserved : goal.loop-done-preserved
loop-done-preserved g c = record {
  so_far = one_more _ _ _ _ _ _ _ _ c.loop-done.invariant.so_far c.in_ok-here.ensures.tells c.in_ok-here.ensures.after
      c.in_ok-here.ensures.good;
  groups = c.in_ok-here.ensures.groups;
}
