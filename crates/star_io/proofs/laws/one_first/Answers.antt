use Rattle.star_io.proofs.RecordLaws.{same_first}
use Rattle.star_io.proofs.laws.one_first.Goals as goal

pub returns : goal.returns
returns c = same_first
