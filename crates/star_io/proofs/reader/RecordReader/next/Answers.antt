use Rattle.star_io.proofs.NextRecord.{only_record}
use Rattle.star_io.proofs.reader.RecordReader.next.Goals as goal

pub returns-clause-only : goal.returns-clause-only
returns-clause-only g c r bytes rest ready told begins = only_record _ _ c.in_ok-found.found r bytes rest c.in_ok-found.ensures.next told begins
