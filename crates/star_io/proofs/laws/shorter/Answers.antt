use Rattle.star_io.proofs.RecordLaws.{shorter}
use Rattle.star_io.proofs.laws.shorter.Goals as goal

pub returns : goal.returns
returns c = shorter
