use Rattle.std.proofs.Common.{rules, append_assoc}
use Rattle.star_tool.proofs.check_text.push_good_head.Goals as goal

pub returns : goal.returns
returns c = search (rules, append_assoc)
