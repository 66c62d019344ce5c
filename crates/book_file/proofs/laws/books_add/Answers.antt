use Rattle.book_file.proofs.BookLaws.{book_sum, book_turns}
use Rattle.book_file.proofs.laws.books_add.Goals as goal

pub returns-clause-sum : goal.returns-clause-sum
returns-clause-sum c = book_sum

pub returns-clause-turned : goal.returns-clause-turned
returns-clause-turned c = book_turns
