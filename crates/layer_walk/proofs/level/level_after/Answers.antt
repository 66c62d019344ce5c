use Rattle.tag_groups.specs.RowView.{RowView}
use Rattle.layer_walk.specs.declared.level.Level.{Level}
use Rattle.std.proofs.Common.{◌+◌, List, sym, subst}
use Rattle.layer_walk.specs.Made.{IsAfter, IsLevel}
use Rattle.layer_walk.proofs.Next.{is_after, is_level}
use Rattle.layer_walk.proofs.level.level_after.Goals as goal

pub returns-clause-after : goal.returns-clause-after
returns-clause-after c =
    let level = c.args.level.now in
    let sorted = c.in_ok-rows.rows.items in
    let made : List RowView → Level = λ l. record {
      number = level.number + 1;
      epoch = level.epoch;
      parents =
          c.in_ok-parents.field-0.parents;
      rows = l;
    } in
    subst (λ l. IsAfter level (made l)) (sym c.from_vec.ensures)
    (is_after level c.requires.level c.in_ok-parents.field-0.parents c.in_ok-parents.field-0.rows.items sorted
    c.in_ok-parents.ensures c.in_ok-rows.ensures.moved c.in_ok-rows.ensures.rises)

pub returns-clause-good : goal.returns-clause-good
returns-clause-good c =
    let level = c.args.level.now in
    let sorted = c.in_ok-rows.rows.items in
    let made : List RowView → Level = λ l. record {
      number = level.number + 1;
      epoch = level.epoch;
      parents =
          c.in_ok-parents.field-0.parents;
      rows = l;
    } in
    subst (λ l. IsLevel (made l)) (sym c.from_vec.ensures)
    (is_level level c.requires.level c.in_ok-parents.field-0.parents c.in_ok-parents.field-0.rows.items sorted
    c.in_ok-parents.ensures c.in_ok-rows.ensures.moved c.in_ok-rows.ensures.rises)
