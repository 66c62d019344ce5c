use Rattle.shamir_limbs.proofs.KeyLines.{some_line}
use Rattle.shamir_limbs.proofs.LineSearch.{recovered_is_line}
use Rattle.shamir_limbs.proofs.recovery.recover.Goals as goal

pub returns-clause-found : goal.returns-clause-found
returns-clause-found c = some_line _ _ _ c.args.points.now c.args.k c.find_line.result c.find_line.ensures.line c.find_line.ensures.from

pub returns-clause-line : goal.returns-clause-line
returns-clause-line c = recovered_is_line c.args.points.now c.args.k c.find_line.result c.find_line.ensures.key (returns-clause-found c) c.find_line.ensures.only
