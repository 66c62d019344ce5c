use Rattle.cert_audit.proofs.CertLaws.{reading_fault}
use Rattle.cert_audit.proofs.laws.reading_fault.Goals as goal

pub returns : goal.returns
returns c = reading_fault
