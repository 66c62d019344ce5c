use Rattle.std.proofs.Common.{refl}
use Rattle.tag_groups.specs.Left.{points_left_of}
use Rattle.layer_walk.proofs.examples.points_left_shown.Goals as goal

pub returns : goal.returns
unfolding points_left_of
returns c = refl
