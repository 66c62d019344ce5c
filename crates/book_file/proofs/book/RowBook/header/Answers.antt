use Rattle.std.proofs.Common.{arith}
use Rattle.book_file.proofs.Books.{few_entries}
use Rattle.book_file.proofs.book.RowBook.header.Goals as goal

pub overflow_cast-len : goal.overflow_cast-len
overflow_cast-len c =
    omega (arith, c.len.ensures.len, few_entries c.self.inside.entries.entries c.self.invariant.is_book.counts, c.self.invariant.is_book.few)
