use Rattle.star_io.proofs.RecordLaws.{begin_more}
use Rattle.star_io.proofs.laws.begin_more.Goals as goal

pub returns : goal.returns
returns c = begin_more
