use Rattle.std.proofs.Common.{◌+◌, ◌++◌, List, length, arith, sym, ap, ◌∙◌, subst}
use Rattle.tag_groups.specs.RowView.{RowView}
use Rattle.layer_walk.specs.declared.level.Level.{Level}
use Rattle.layer_walk.specs.Levels.{counts_of}
use Rattle.layer_walk.specs.Made.{IsAfter, IsLevel}
use Rattle.layer_walk.specs.Told.{outcomes_of}
use Rattle.layer_walk.proofs.Making.{refusals_given, aux_given}
use Rattle.layer_walk.proofs.Next.{is_after, is_level, outs_few}
use Rattle.layer_walk.proofs.Telling.{counts_told}
use Rattle.layer_walk.proofs.levels.pass_level.Goals as goal

pub tell_count-requires : goal.tell_count-requires
tell_count-requires g c =
    omega (arith, ap length c.as_slice-2.ensures.value, outs_few c.args.here.level c.args.here.groups c.args.outs.items c.requires.level c.requires.groups c.requires.outs)

pub grouper_after-requires : goal.grouper_after-requires
grouper_after-requires g c =
    let level = c.args.here.level in
    let sorted = c.in_ok-sorted_rows.field-0.items in
    (is_level level c.requires.level c.in_ok-children.field-0.children.parents c.in_ok-children.field-0.children.rows.items sorted
    c.in_ok-children.ensures.children c.in_ok-sorted_rows.ensures.moved c.in_ok-sorted_rows.ensures.rises).few

pub returns-clause-tells : goal.returns-clause-tells
returns-clause-tells g c =
    let level = c.args.here.level in
    let groups = c.args.here.groups in
    let outs = c.args.outs.items in
    let told = c.args.told.now in
    let refusals = c.in_ok-sorted_refusals.field-0.items in
    let aux = c.in_ok-sorted_aux.field-0.items in
    record {
      groups = c.in_ok-tell_groups.ensures;
      levels = c.in_ok-tell_count.ensures ∙ ap (λ l. told.levels ++ l)
          (ap (λ l. counts_of (outcomes_of l)) c.as_slice-2.ensures.value
          ∙ counts_told level c.requires.level groups c.requires.groups outs c.requires.outs);
      refusals = c.in_ok-append.ensures ∙ ap (λ l. told.refusals.items ++ l)
          (refusals_given level c.requires.level _ refusals c.in_ok-children.ensures.refusals c.in_ok-sorted_refusals.ensures.moved
          c.in_ok-sorted_refusals.ensures.rises);
      aux = c.in_ok-append-2.ensures ∙ ap (λ l. told.aux.items ++ l)
          (aux_given level c.requires.level _ aux c.in_ok-children.ensures.aux c.in_ok-sorted_aux.ensures.moved
          c.in_ok-sorted_aux.ensures.rises);
    }

pub returns-clause-after : goal.returns-clause-after
returns-clause-after g c =
    let level = c.args.here.level in
    let sorted = c.in_ok-sorted_rows.field-0.items in
    let made : List RowView → Level = λ l. record {
      number = level.number + 1;
      epoch = level.epoch;
      parents =
          c.in_ok-children.field-0.children.parents;
      rows = l;
    } in
    subst (IsAfter level) (sym (c.with_groups.ensures.level ∙ ap made c.in_ok-grouper.ensures))
    (is_after level c.requires.level c.in_ok-children.field-0.children.parents c.in_ok-children.field-0.children.rows.items sorted
    c.in_ok-children.ensures.children c.in_ok-sorted_rows.ensures.moved c.in_ok-sorted_rows.ensures.rises)

pub returns-clause-good : goal.returns-clause-good
returns-clause-good g c =
    let level = c.args.here.level in
    let sorted = c.in_ok-sorted_rows.field-0.items in
    let made : List RowView → Level = λ l. record {
      number = level.number + 1;
      epoch = level.epoch;
      parents =
          c.in_ok-children.field-0.children.parents;
      rows = l;
    } in
    subst IsLevel (sym (c.with_groups.ensures.level ∙ ap made c.in_ok-grouper.ensures))
    (is_level level c.requires.level c.in_ok-children.field-0.children.parents c.in_ok-children.field-0.children.rows.items sorted
    c.in_ok-children.ensures.children c.in_ok-sorted_rows.ensures.moved c.in_ok-sorted_rows.ensures.rises)
