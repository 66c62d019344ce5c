use Rattle.std.proofs.Common.{◌∙◌, arith, rules}
use Rattle.star_tool.proofs.BookWalk.{once_more, not_yet}
use Rattle.star_tool.proofs.book_walk.take_often.Goals as goal

pub loop-init : goal.loop-init
loop-init c = record {
  epoch = search rules;
  taken = omega arith;
  stands = λ records stands. not_yet c.args.walk.now records stands;
}

pub loop-preserved : goal.loop-preserved
loop-preserved c = record {
  epoch = c.take.ensures.epoch ∙ c.loop.invariant.epoch;
  taken = omega (arith, c.in_ok-take.ensures.taken, c.loop.invariant.taken);
  stands = λ records stands. once_more c.take.new.self records c.args.frame.now c.loop.counter (first_of (search (rules, c.in_ok-take.ensures.stands, c.loop.invariant.stands), search rules));
}
