use Rattle.epoch_walk.proofs.Sections.{section_alone}
use Rattle.epoch_walk.proofs.laws.epochs_apart.Goals as goal

pub returns : goal.returns
returns c = section_alone
