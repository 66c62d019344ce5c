use Rattle.std.proofs.Common.{refl}
use Rattle.gao_decoder.proofs.halving.stops_at.Goals as goal

pub returns-else-degree-n-clause-degree : goal.returns-else-degree-n-clause-degree
returns-else-degree-n-clause-degree c = (c.in-Some-degree.ensures.some c.in-Some-degree.degree).0 refl
