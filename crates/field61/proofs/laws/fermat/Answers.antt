use Rattle.field61.proofs.Fermat.{fermat}
use Rattle.field61.proofs.laws.fermat.Goals as goal

pub returns : goal.returns
returns c = fermat
