use Rattle.std.proofs.Common.{◌≡◌, ◌∙◌, ◌++◌, ◌∷◌, List, ℕ, replicate, subst}
use Rattle.star_io.specs.declared.record.Record.{Record}
use Rattle.star_io.specs.declared.record.Record.TheVariants.{Whole}
use Rattle.layer_walk.specs.Standing.{StandsFor}
use Rattle.book_merge.specs.Records.{records_of}
use Rattle.star_tool.proofs.BookWalk.{walked_none, has_room, walked_more, walked_all}
use Rattle.star_tool.proofs.book_walk.walk_of.Goals as goal

pub loop-frame-init : goal.loop-frame-init
loop-frame-init c = record {
  epoch = c.new-walk.ensures.epoch ∙ c.epoch.ensures;
  walked = walked_none c.new-walk.result c.args.book.now c.into_iter-frame-iterator.result (c.into_iter-frame-iterator.ensures.into_iter_gives ∙ c.iter-frame-items.ensures.rest)
      c.new-walk.ensures.taken c.new-walk.ensures.stands c.know.ensures.few;
}

pub take_often-requires : goal.take_often-requires
take_often-requires c =
    let next : c.loop-frame.frame-iterator ≡ (c.in-Some.frame.now, c.in-Some.count.now) ∷ c.next.new.self = c.in-Some.ensures.steps in
    has_room c.loop-frame.walk c.loop-frame.frame-iterator c.next.new.self c.args.book.now.entries (c.in-Some.frame.now, c.in-Some.count.now) next c.loop-frame.invariant.walked

pub loop-frame-preserved : goal.loop-frame-preserved
loop-frame-preserved c =
    let next : c.loop-frame.frame-iterator ≡ (c.in-Some.frame.now, c.in-Some.count.now) ∷ c.next.new.self = c.in-Some.ensures.steps in
    let takes = subst (λ (f : List ℕ). (records : List Record) → StandsFor c.loop-frame.walk records → StandsFor c.take_often.new.walk (records ++ replicate c.in-Some.count.now (Whole f))) c.as_slice.ensures
    c.in_ok-take_often.ensures.records in
    record {
      epoch = c.take_often.ensures.epoch ∙ c.loop-frame.invariant.epoch;
      walked = walked_more c.loop-frame.walk c.take_often.new.walk c.loop-frame.frame-iterator c.next.new.self c.args.book.now.entries (c.in-Some.frame.now, c.in-Some.count.now) next
          c.in_ok-take_often.ensures.taken takes c.loop-frame.invariant.walked;
    }

pub returns-clause-records : goal.returns-clause-records
unfolding records_of
returns-clause-records c = walked_all c.loop-frame.walk c.loop-frame.frame-iterator c.args.book.now.entries c.in-None.ensures.steps.0 c.loop-frame.invariant.walked
