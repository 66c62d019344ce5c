use Rattle.star_io.proofs.RecordLaws.{one_list_of}
use Rattle.star_io.proofs.laws.one_list.Goals as goal

pub returns : goal.returns
returns c = one_list_of
