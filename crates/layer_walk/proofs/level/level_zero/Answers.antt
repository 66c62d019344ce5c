use Rattle.std.proofs.Common.{◌≡◌, ◌+◌, ◌++◌, ◌∷◌, [], length, take, map, arith, sym, ap, ◌∙◌, subst}
use Rattle.std.proofs.lemmas.List.{length-take-le, take_all}
use Rattle.star_lists.proofs.Mapped.{take-step}
use Rattle.layer_walk.specs.Made.{IsLevel}
use Rattle.layer_walk.specs.Outer.{first_row}
use Rattle.layer_walk.specs.Reveal.{first_frame, outer_rows}
use Rattle.layer_walk.specs.Standing.{outermost, level_zero_of}
use Rattle.layer_walk.proofs.Firsts.{views_none, views_row, views_other, zero_good}
use Rattle.layer_walk.proofs.level.level_zero.Goals as goal
use Rattle.layer_walk.proofs.level.level_zero.Goals.{in-Ok+in_ok-push, in_default}

pub loop-i-init : goal.loop-i-init
loop-i-init c = c.new-rows.ensures ∙ sym (views_none c.args.epoch c.args.records.now)

pub loop-i-preserved : goal.loop-i-preserved
loop-i-preserved c =
    let e = c.args.epoch in
    let records = c.args.records.now in
    let i = c.loop-i.i in
    let item = c.index-records-i.result in
    let at : i ≡ length (take i records) = sym (length-take-le i records (omega (arith, c.loop-i-test.true))) in
    let grown : take (i + 1) records ≡ take i records ++ item ∷ [] = take-step records i item c.loop-i-test.true c.index-records-i.is in
    let tried : c.first_row.result ≡ first_row i (first_frame e item) = c.first_row.ensures ∙ ap (λ r. first_row i (first_frame e r)) c.in_ok-copy_record.ensures in
    elim c.match-first_row.branch [
      | in-Ok+in_ok-push w ↦
          w.rows-is ∙ w.in_ok-push.ensures.added ∙ ap (λ r. c.loop-i.rows ++ r ∷ []) w.into_row.ensures ∙ ap (λ l. l ++ w.in-Ok.row ∷ []) c.loop-i.invariant
          ∙ sym (views_row e (take i records) (take (i + 1) records) item w.in-Ok.row i at grown (sym tried ∙ w.in-Ok.is))
      | in_default w ↦
          w.rows-is ∙ c.loop-i.invariant
          ∙ sym (views_other e (take i records) (take (i + 1) records) item i at grown (λ row is. w.in_default.not-Ok row (tried ∙ is)))
    ]

pub returns-clause-good : goal.returns-clause-good
returns-clause-good c =
    let e = c.args.epoch in
    let records = c.args.records.now in
    let rows : c.loop-i.rows ≡ map outermost (outer_rows e records) = c.loop-i.invariant ∙ ap (λ l. map outermost (outer_rows e l)) (take_all c.loop-i.i records c.loop-i-test.false) in
    let level : record { number = 0; epoch = e; parents = c.in_ok-parents.parents; rows = c.loop-i.rows } ≡ level_zero_of e records =
    (λ j. record { number = 0; epoch = e; parents = c.in_ok-parents.ensures j; rows = rows j }) in
    subst IsLevel (sym level) (zero_good e records c.requires)
