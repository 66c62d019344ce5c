use Rattle.star_io.proofs.FrontLaws.{records_of_front}
use Rattle.star_io.proofs.laws.records_of_front.Goals as goal

pub returns : goal.returns
returns c = records_of_front
