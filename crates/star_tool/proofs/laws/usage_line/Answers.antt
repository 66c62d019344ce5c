use Rattle.std.proofs.Common.{refl}
use Rattle.star_tool.specs.Status.{first_usages, next_usages, last_usages}
use Rattle.star_tool.proofs.laws.usage_line.Goals as goal

pub returns : goal.returns
unfolding first_usages next_usages last_usages
returns c = refl
