use Rattle.field61.proofs.FieldLaws.{HasOneInverse-nonzero}
use Rattle.field61.proofs.laws.one_inverse.Goals as goal

pub returns : goal.returns
returns c = HasOneInverse-nonzero
