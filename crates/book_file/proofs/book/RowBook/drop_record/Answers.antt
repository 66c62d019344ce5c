use Rattle.std.proofs.Common.{◌+◌, sym, ap, ◌∙◌}
use Rattle.std.specs.Prelude.{None}
use Rattle.book_file.specs.Book.{Book}
use Rattle.book_file.specs.BookOf.{one_book, sum_of}
use Rattle.book_file.proofs.Sums.{sum_nil}
use Rattle.book_file.proofs.book.RowBook.drop_record.Goals as goal

pub returns-clause-added : goal.returns-clause-added
unfolding sum_of
returns-clause-added c =
    (λ i. record { epoch = c.self.inside.epoch; dropped = c.self.inside.dropped + 1; entries = sym (sum_nil c.self.inside.entries.entries c.self.invariant.is_book.ascending) i })
    ∙ ap (λ (b : Book). sum_of b (one_book b.epoch None)) c.self.view_is
