use Rattle.field61.proofs.Pocklington.{pocklington}
use Rattle.field61.proofs.laws.pocklington.Goals as goal

pub returns : goal.returns
returns c = pocklington
