use Rattle.star_io.proofs.RecordLaws.{none_follow}
use Rattle.star_io.proofs.laws.none_follow.Goals as goal

pub returns : goal.returns
returns c = none_follow
