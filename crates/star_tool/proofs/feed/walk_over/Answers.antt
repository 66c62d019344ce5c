use Rattle.std.proofs.Common.{[]}
use Rattle.star_tool.proofs.feed.walk_over.Goals as goal

pub returns-clause-records : goal.returns-clause-records
returns-clause-records g c = λ bytes told.
    let all = c.in_ok-feed.ensures.records bytes told in
    (all.0 c.args.epoch [] (c.new-walk.ensures.epoch, c.new-walk.ensures.stands), all.1, all.2)
