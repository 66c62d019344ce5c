use Rattle.layer_walk.proofs.Alike.{same_walk}
use Rattle.layer_walk.proofs.laws.order_apart.Goals as goal

pub returns : goal.returns
returns c = same_walk
