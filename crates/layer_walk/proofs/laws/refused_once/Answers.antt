use Rattle.layer_walk.proofs.RefusedOnce.{refusals_rise, levels_rise, aux_rise}
use Rattle.layer_walk.proofs.laws.refused_once.Goals as goal

pub returns-clause-refusals : goal.returns-clause-refusals
returns-clause-refusals c = refusals_rise

pub returns-clause-rows : goal.returns-clause-rows
returns-clause-rows c = levels_rise

pub returns-clause-aux : goal.returns-clause-aux
returns-clause-aux c = aux_rise
