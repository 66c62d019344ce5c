use Rattle.star_tool.proofs.AuditLaws.{bad_means, certs_told}
use Rattle.star_tool.proofs.laws.audit_tells.Goals as goal

pub returns-clause-bad : goal.returns-clause-bad
returns-clause-bad c = bad_means

pub returns-clause-text : goal.returns-clause-text
returns-clause-text c = λ certs bytes seed range is. certs_told certs bytes range is
