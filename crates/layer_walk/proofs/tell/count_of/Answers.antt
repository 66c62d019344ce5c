use Rattle.std.proofs.Common.{arith, ap}
use Rattle.layer_walk.specs.declared.revealed.LevelCount.{LevelCount}
use Rattle.layer_walk.specs.Levels.{is_opened, is_few, is_no_line, is_bad_value}
use Rattle.layer_walk.proofs.Telling.{few_counted}
use Rattle.layer_walk.proofs.tell.count_of.Goals as goal

pub overflow_add-count : goal.overflow_add-count
overflow_add-count c = omega (arith, ap (λ (n : LevelCount). n.opened) c.loop-out.invariant, few_counted is_opened c.args.outs.now c.loop-out.out-index, c.loop-out-test.true, c.requires)

pub overflow_add-count-in-Few : goal.overflow_add-count-in-Few
overflow_add-count-in-Few c = omega (arith, ap (λ (n : LevelCount). n.few) c.loop-out.invariant, few_counted is_few c.args.outs.now c.loop-out.out-index, c.loop-out-test.true, c.requires)

pub overflow_add-count-in-NoLine : goal.overflow_add-count-in-NoLine
overflow_add-count-in-NoLine c = omega (arith, ap (λ (n : LevelCount). n.no_line) c.loop-out.invariant, few_counted is_no_line c.args.outs.now c.loop-out.out-index, c.loop-out-test.true, c.requires)

pub overflow_add-count-in-BadValue : goal.overflow_add-count-in-BadValue
overflow_add-count-in-BadValue c = omega (arith, ap (λ (n : LevelCount). n.bad_value) c.loop-out.invariant, few_counted is_bad_value c.args.outs.now c.loop-out.out-index, c.loop-out-test.true, c.requires)
