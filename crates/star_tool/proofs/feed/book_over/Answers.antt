use Rattle.std.proofs.Common.{[], ◌∙◌, ap, arith}
use Rattle.book_file.specs.Book.{total_of}
use Rattle.star_tool.proofs.BookVerbs.{book_begun}
use Rattle.star_tool.proofs.feed.book_over.Goals as goal

pub feed-requires : goal.feed-requires
feed-requires g c = omega (arith, ap total_of c.empty-book.ensures, c.requires)

pub returns-clause-records : goal.returns-clause-records
returns-clause-records g c = λ bytes told.
    let all = c.in_ok-feed.ensures.records bytes told in
    (all.0 c.args.epoch [] (c.empty-book.ensures ∙ book_begun c.args.epoch), all.1, all.2)
