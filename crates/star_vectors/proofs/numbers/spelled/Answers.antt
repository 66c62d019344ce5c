use Rattle.std.proofs.Common.{◌∙◌, arith}
use Rattle.star_vectors.proofs.Spelling.{spelled_all}
use Rattle.star_vectors.proofs.numbers.spelled.Goals as goal

pub returns : goal.returns
returns c = c.loop-i.invariant ∙ spelled_all c.args.numbers.now c.loop-i.i (omega arith)
