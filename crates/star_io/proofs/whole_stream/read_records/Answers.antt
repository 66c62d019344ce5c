use Rattle.std.proofs.Common.{[]}
use Rattle.star_io.proofs.whole_stream.read_records.Goals as goal

pub returns-clause-records : goal.returns-clause-records
returns-clause-records g c = λ bytes told.
    let all = c.in_ok-feed.ensures.records bytes told in
    (all.0 0 [] c.new-records.ensures.items, all.1, all.2)
