use Rattle.book_file.proofs.BookLaws.{books_turn, books_group}
use Rattle.book_file.proofs.laws.sums_agree.Goals as goal

pub returns-clause-turned : goal.returns-clause-turned
returns-clause-turned c = books_turn

pub returns-clause-grouped : goal.returns-clause-grouped
returns-clause-grouped c = books_group
