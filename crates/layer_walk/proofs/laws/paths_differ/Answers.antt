use Rattle.layer_walk.proofs.WholeReveal.{groups_rise, groups_differ}
use Rattle.layer_walk.proofs.laws.paths_differ.Goals as goal

pub returns-clause-apart : goal.returns-clause-apart
returns-clause-apart c = groups_differ

pub returns-clause-rise : goal.returns-clause-rise
returns-clause-rise c = groups_rise
