use Rattle.field61.proofs.Totals.{two_products}
use Rattle.field61.proofs.sums.sum_of_two.Goals as goal

pub returns-clause-sum : goal.returns-clause-sum
returns-clause-sum c = let e = two_products c.args.a c.args.b c.args.c c.args.d in cc
