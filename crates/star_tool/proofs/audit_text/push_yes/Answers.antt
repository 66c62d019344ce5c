use Rattle.std.proofs.Common.{rules, append_assoc}
use Rattle.star_tool.proofs.audit_text.push_yes.Goals as goal

pub returns : goal.returns
returns c = search (rules, append_assoc)
