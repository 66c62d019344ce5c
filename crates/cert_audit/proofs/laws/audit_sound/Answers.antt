use Rattle.cert_audit.proofs.Sound.{audit_sound}
use Rattle.cert_audit.proofs.laws.audit_sound.Goals as goal

pub returns : goal.returns
returns c = audit_sound
