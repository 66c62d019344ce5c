use Rattle.layer_walk.proofs.Outside.{one_changed}
use Rattle.layer_walk.proofs.laws.bodies_apart.Goals as goal

pub returns : goal.returns
returns c = one_changed
