use Rattle.std.proofs.Common.{List, ℕ, subst, sym}
use Rattle.star_io.specs.Records.{AreRecords}
use Rattle.star_io.specs.RecordLists.{whole}
use Rattle.star_io.proofs.RecordListLaws.{only_stream, are_stream}
use Rattle.star_io.proofs.laws.one_stream.Goals as goal

pub returns : goal.returns
returns c = λ bodies bytes short. (only_stream bodies bytes, λ is. subst (λ (b : List ℕ). AreRecords (whole bodies) b) (sym is) (are_stream bodies short))
