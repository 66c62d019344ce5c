use Rattle.std.proofs.Common.{ap}
use Rattle.book_file.specs.Spelling.{spelling}
use Rattle.star_tool.specs.Verbs.Merge.{refusal_in, of_sum}
use Rattle.star_tool.proofs.laws.merge_tells.Goals as goal

pub returns-clause-fault : goal.returns-clause-fault
returns-clause-fault c = λ epoch bytes fault is. ap refusal_in is

pub returns-clause-good : goal.returns-clause-good
returns-clause-good c = λ epoch bytes sum is. ap refusal_in is

pub returns-clause-sum : goal.returns-clause-sum
returns-clause-sum c = λ epoch bytes seed sum is. ap (of_sum spelling) is
