use Rattle.star_tool.specs.Seen.{seen}
use Rattle.star_tool.proofs.BookVerbs.{book_made}
use Rattle.star_tool.proofs.verbs.book.book_output.Goals as goal

pub returns-clause-output : goal.returns-clause-output
returns-clause-output g c = λ coins.
    book_made c.args.epoch (seen g.S.Source.left g.S.Source.faults c.args.input.now c.book_over.new.input) coins c.in_ok-book.book c.in_ok-bytes.bytes.items c.in_ok-book.ensures.records c.in_ok-bytes.ensures
