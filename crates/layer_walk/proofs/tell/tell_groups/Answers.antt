use Rattle.std.proofs.Common.{◌≡◌, ◌<◌, ◌++◌, ◌∷◌, [], length, arith, sym, ap, ◌∙◌, take, append_assoc, append-nil}
use Rattle.std.specs.List.{filter_map, cons_option}
use Rattle.std.proofs.lemmas.List.{take_all}
use Rattle.std.proofs.lemmas.List.Elements.{filter_map-append}
use Rattle.tag_groups.specs.Grouped.{group_of}
use Rattle.layer_walk.specs.Rows.{first_members}
use Rattle.layer_walk.specs.Levels.{opened_row, opened_at}
use Rattle.layer_walk.specs.Outs.{IsOut, FitsLevel}
use Rattle.layer_walk.specs.Made.{of_level, named, named_row, group_child}
use Rattle.layer_walk.proofs.Next.{fit_at}
use Rattle.layer_walk.proofs.Pairs.{zip_lengths}
use Rattle.layer_walk.proofs.Telling.{told_option, group_told, out_at, outs_count, shut_none}
use Rattle.layer_walk.proofs.tell.tell_groups.Goals as goal
use Rattle.layer_walk.proofs.tell.tell_groups.Goals.{in-Opened+in_ok-push, in_default}

pub get-group-requires : goal.get-group-requires
get-group-requires c = omega (arith, c.loop-i-test.true, zip_lengths (IsOut c.args.level.now) c.args.groups.now c.args.outs.now c.requires.outs)

pub group_path-requires-clause-parent : goal.group_path-requires-clause-parent
group_path-requires-clause-parent c =
    let inside : c.loop-i.i < length c.args.groups.now = omega (arith, c.loop-i-test.true, zip_lengths (IsOut c.args.level.now) c.args.groups.now c.args.outs.now c.requires.outs) in
    (fit_at c.args.level.now c.args.groups.now c.requires.level c.requires.number c.requires.groups c.loop-i.i c.get-group.result.now inside c.get-group.ensures).parent

pub overflow_cast-members : goal.overflow_cast-members
overflow_cast-members c =
    let inside : c.loop-i.i < length c.args.groups.now = omega (arith, c.loop-i-test.true, zip_lengths (IsOut c.args.level.now) c.args.groups.now c.args.outs.now c.requires.outs) in
    let fit : FitsLevel c.args.level.now c.get-group.result.now = fit_at c.args.level.now c.args.groups.now c.requires.level c.requires.number c.requires.groups c.loop-i.i c.get-group.result.now inside c.get-group.ensures in
    omega (arith, fit.few, ap length c.members.ensures)

pub loop-i-preserved : goal.loop-i-preserved
loop-i-preserved c =
    let level = c.args.level.now in
    let out = c.index-outs-i.result in
    let before = c.args.told.now.items in
    let f = of_level level opened_row in
    let all = first_members (named level) in
    let at = out_at level c.requires.level c.args.groups.now c.requires.groups c.args.outs.now c.requires.outs c.loop-i.i out
    c.loop-i-test.true c.index-outs-i.is in
    let F = named_row level.parents at.first in
    let told : told_option level (group_of level.rows at.first) out.points out.outcome ≡ f F =
    (λ i. told_option level (group_of level.rows at.first) (at.is_out.points i) (at.is_out.outcome i))
    ∙ group_told level c.requires.level at.first at.inside in
    let one : c.match-out.told.items ≡ c.loop-i.told.items ++ cons_option (f F) [] = elim c.match-out.branch [
      | in-Opened+in_ok-push w ↦
          let g = at.group w.get-group.result.now w.get-group.ensures in
          ap (λ v. v.items) w.told-is ∙ w.in_ok-push.ensures.items
          ∙ (λ i. c.loop-i.told.items ++ record {
            path = w.group_path.ensures i;
            points = out.points;
            agree = w.in-Opened.agree;
            members =
                length (w.members.ensures i);
          } ∷ [])
          ∙ (λ i. c.loop-i.told.items ++ record {
            path = (group_child level (g i) w.in-Opened.value).path;
            points = out.points;
            agree =
                w.in-Opened.agree;
            members = length (g i).members;
          } ∷ [])
          ∙ ap (λ o. c.loop-i.told.items ++ cons_option (told_option level (group_of level.rows at.first) out.points o) [])
          (sym w.in-Opened.is)
          ∙ ap (λ o. c.loop-i.told.items ++ cons_option o []) told
      | in_default w ↦
          ap (λ v. v.items) w.told-is ∙ sym (append-nil c.loop-i.told.items)
          ∙ ap (λ o. c.loop-i.told.items ++ cons_option o []) (sym (shut_none _ out.outcome w.in_default.not-Opened) ∙ told)
    ] in
    one ∙ ap (λ l. l ++ cons_option (f F) []) c.loop-i.invariant
    ∙ append_assoc before (filter_map f (take c.loop-i.i all)) (cons_option (f F) [])
    ∙ ap (λ l. before ++ l) (sym (ap (filter_map f) at.more ∙ filter_map-append f (take c.loop-i.i all) (F ∷ [])))

pub returns : goal.returns
unfolding opened_at
returns c =
    let level = c.args.level.now in
    let count = outs_count level c.requires.level c.args.groups.now c.requires.groups c.args.outs.now c.requires.outs in
    c.loop-i.invariant
    ∙ ap (λ l. c.args.told.now.items ++ filter_map (of_level level opened_row) l)
    (take_all c.loop-i.i (first_members (named level)) (omega (arith, c.loop-i-test.false, count)))
