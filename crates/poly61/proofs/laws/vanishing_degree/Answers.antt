use Rattle.poly61.proofs.PolynomialLaws.{vanishing_degree}
use Rattle.poly61.proofs.laws.vanishing_degree.Goals as goal

pub returns : goal.returns
returns c = vanishing_degree
