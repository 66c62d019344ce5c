use Rattle.book_merge.proofs.BookReveals.{book_reveals}
use Rattle.book_merge.proofs.laws.book_reveals.Goals as goal

pub returns : goal.returns
returns c = book_reveals
