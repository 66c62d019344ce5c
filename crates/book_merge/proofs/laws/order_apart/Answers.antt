use Rattle.book_merge.proofs.Orders.{same_book}
use Rattle.book_merge.proofs.laws.order_apart.Goals as goal

pub returns : goal.returns
returns c = same_book
