use Rattle.field61.proofs.FieldLaws.{difference_below, difference_of_integers, difference_is_sum}
use Rattle.field61.proofs.laws.differences.Goals as goal

pub returns-clause-below : goal.returns-clause-below
returns-clause-below c = difference_below

pub returns-clause-integer : goal.returns-clause-integer
returns-clause-integer c = difference_of_integers

pub returns-clause-sum : goal.returns-clause-sum
returns-clause-sum c = difference_is_sum
