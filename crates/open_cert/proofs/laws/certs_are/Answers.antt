use Rattle.open_cert.proofs.Complete.{complete}
use Rattle.open_cert.proofs.laws.certs_are.Goals as goal

pub returns : goal.returns
returns c = complete
