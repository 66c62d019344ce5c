use Rattle.epoch_walk.proofs.Sections.{epochs_there, epochs_rise}
use Rattle.epoch_walk.proofs.laws.epochs_are.Goals as goal

pub returns-clause-there : goal.returns-clause-there
returns-clause-there c = epochs_there

pub returns-clause-rise : goal.returns-clause-rise
returns-clause-rise c = epochs_rise
