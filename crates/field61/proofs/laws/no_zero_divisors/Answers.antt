use Rattle.field61.proofs.FieldLaws.{no_zero_divisors}
use Rattle.field61.proofs.laws.no_zero_divisors.Goals as goal

pub returns : goal.returns
returns c = no_zero_divisors
