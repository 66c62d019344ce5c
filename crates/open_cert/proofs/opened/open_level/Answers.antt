use Rattle.std.proofs.Common.{◌<◌, ◌∷◌, [], length, arith, sym, ap, ◌∙◌, subst, append-nil}
use Rattle.std.specs.Option.{option_to_list}
use Rattle.star_lists.proofs.Zips.{AllZip-take_more}
use Rattle.layer_walk.specs.Made.{AreOuts}
use Rattle.layer_walk.specs.Outs.{IsOut}
use Rattle.layer_walk.specs.Reveal.{no_parent}
use Rattle.layer_walk.proofs.Next.{fit_at}
use Rattle.layer_walk.proofs.Pairs.{group_at}
use Rattle.open_cert.proofs.Groups.{groups_step, none_list}
use Rattle.open_cert.proofs.opened.open_level.Goals as goal
use Rattle.open_cert.proofs.opened.open_level.Goals.{in-Some+in_ok-push, in_default}

pub open_group_line-requires : goal.open_group_line-requires
open_group_line-requires c =
    fit_at c.args.level.now c.args.groups.now c.requires.level c.requires.number c.requires.groups c.loop-i.i c.get-group.result.now (omega (arith, c.loop-i-test.true, c.len-i-end.ensures)) c.get-group.ensures

pub certify-requires-clause-fits : goal.certify-requires-clause-fits
certify-requires-clause-fits c =
    fit_at c.args.level.now c.args.groups.now c.requires.level c.requires.number c.requires.groups c.loop-i.i c.get-group.result.now (omega (arith, c.loop-i-test.true, c.len-i-end.ensures)) c.get-group.ensures

pub certify-requires-clause-room : goal.certify-requires-clause-room
certify-requires-clause-room c =
    let fit = fit_at c.args.level.now c.args.groups.now c.requires.level c.requires.number c.requires.groups c.loop-i.i c.get-group.result.now (omega (arith, c.loop-i-test.true, c.len-i-end.ensures)) c.get-group.ensures in
    omega (arith, c.requires.level.depth c.get-group.result.now.parent no_parent fit.parent, c.requires.number)

pub loop-i-preserved : goal.loop-i-preserved
loop-i-preserved c =
    let level = c.args.level.now in
    let groups = c.args.groups.now in
    let i = c.loop-i.i in
    let g = c.get-group.result.now in
    let out = c.in_ok-out.field-0.out in
    let inside : i < length groups = omega (arith, c.loop-i-test.true, c.len-i-end.ensures) in
    let at = group_at groups i g inside c.get-group.ensures in
    let is : IsOut level g out = c.in_ok-out.ensures.out in
    record {
      outs = subst (AreOuts level _) (sym c.in_ok-push-2.ensures.items) (AllZip-take_more (IsOut level) groups c.loop-i.outs.items i g out inside at c.loop-i.invariant.outs is);
      made = elim c.match-branch-3.branch [
        | in-Some+in_ok-push w ↦
            groups_step level groups i g out.outcome c.loop-i.made.items c.match-branch-3.made.items (w.in-Some.one ∷ []) inside at is.outcome c.loop-i.invariant.made
            (ap option_to_list (sym w.in-Some.is) ∙ c.in_ok-one.ensures) (ap (λ v. v.items) w.made-is ∙ w.in_ok-push.ensures.items)
        | in_default w ↦
            groups_step level groups i g out.outcome c.loop-i.made.items c.match-branch-3.made.items [] inside at is.outcome c.loop-i.invariant.made
            (sym (none_list c.in_ok-one.field-0 w.in_default.not-Some) ∙ c.in_ok-one.ensures) (ap (λ v. v.items) w.made-is ∙ sym (append-nil c.loop-i.made.items))
      ];
    }
