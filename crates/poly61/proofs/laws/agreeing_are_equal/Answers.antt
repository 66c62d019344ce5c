use Rattle.poly61.proofs.PolynomialLaws.{agreeing_are_equal}
use Rattle.poly61.proofs.laws.agreeing_are_equal.Goals as goal

pub returns : goal.returns
returns c = agreeing_are_equal
