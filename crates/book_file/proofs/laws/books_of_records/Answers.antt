use Rattle.book_file.proofs.RecordBooks.{record_total, record_book}
use Rattle.book_file.proofs.laws.books_of_records.Goals as goal

pub returns-clause-total : goal.returns-clause-total
returns-clause-total c = record_total

pub returns-clause-is_book : goal.returns-clause-is_book
returns-clause-is_book c = record_book
