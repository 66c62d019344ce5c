use Rattle.std.proofs.Common.{ap, sym, ◌∙◌, ◌++◌, ◌∷◌, [], true, false, append-nil}
use Rattle.tag_groups.specs.Keys.{is_row_of}
use Rattle.tag_groups.proofs.groups.places_of.Goals as goal
use Rattle.tag_groups.proofs.groups.places_of.Goals.{then-is_row_of+in_ok-push, else-is_row_of}
use Rattle.star_lists.proofs.Places.{places_step}

pub loop-i-preserved : goal.loop-i-preserved
loop-i-preserved c =
    elim c.if-is_row_of.branch [
      | then-is_row_of+in_ok-push w ↦
          let step = places_step (is_row_of c.args.key.now) c.args.rows.now c.loop-i.i c.index-rows-i.result true c.loop-i-test.true c.index-rows-i.is (sym w.if-is_row_of.true ∙ c.is_row_of.ensures) in
          ap (λ v. v.items) w.members-is ∙ w.in_ok-push.ensures.items ∙ ap (λ l. l ++ c.loop-i.i ∷ []) c.loop-i.invariant ∙ sym step
      | else-is_row_of w ↦
          let step = places_step (is_row_of c.args.key.now) c.args.rows.now c.loop-i.i c.index-rows-i.result false c.loop-i-test.true c.index-rows-i.is (sym w.if-is_row_of.false ∙ c.is_row_of.ensures) in
          ap (λ v. v.items) w.members-is ∙ c.loop-i.invariant ∙ sym (append-nil _) ∙ sym step
    ]
