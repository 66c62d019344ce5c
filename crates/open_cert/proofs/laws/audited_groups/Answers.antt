use Rattle.open_cert.proofs.Verdicts.{audited_groups}
use Rattle.open_cert.proofs.laws.audited_groups.Goals as goal

pub returns : goal.returns
returns c = audited_groups
