use Rattle.field61.proofs.FieldLaws.{power_below, power_zero, power_next}
use Rattle.field61.proofs.laws.powers.Goals as goal

pub returns-clause-below : goal.returns-clause-below
returns-clause-below c = power_below

pub returns-clause-zero : goal.returns-clause-zero
returns-clause-zero c = power_zero

pub returns-clause-next : goal.returns-clause-next
returns-clause-next c = power_next
