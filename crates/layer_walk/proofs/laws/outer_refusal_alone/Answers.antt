use Rattle.layer_walk.proofs.TakenOut.{refused_taken_out}
use Rattle.layer_walk.proofs.laws.outer_refusal_alone.Goals as goal

pub returns : goal.returns
returns c = refused_taken_out
