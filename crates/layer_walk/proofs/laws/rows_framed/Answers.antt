use Rattle.layer_walk.proofs.Framed.{all_framed, levels_end}
use Rattle.layer_walk.proofs.laws.rows_framed.Goals as goal

pub returns-clause-frames : goal.returns-clause-frames
returns-clause-frames c = all_framed

pub returns-clause-levels : goal.returns-clause-levels
returns-clause-levels c = levels_end
