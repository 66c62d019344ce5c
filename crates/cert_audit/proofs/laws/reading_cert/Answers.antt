use Rattle.cert_audit.proofs.CertLaws.{reading_cert}
use Rattle.cert_audit.proofs.laws.reading_cert.Goals as goal

pub returns : goal.returns
returns c = reading_cert
