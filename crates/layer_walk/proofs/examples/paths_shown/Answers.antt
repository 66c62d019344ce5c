use Rattle.std.proofs.Common.{refl}
use Rattle.star_lists.specs.Ascending.{in_order}
use Rattle.layer_walk.proofs.examples.paths_shown.Goals as goal

pub returns : goal.returns
unfolding in_order
returns c = refl
