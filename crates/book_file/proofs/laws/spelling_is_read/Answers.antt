use Rattle.book_file.proofs.Spelled.{spelling_read}
use Rattle.book_file.proofs.laws.spelling_is_read.Goals as goal

pub returns : goal.returns
returns c = spelling_read
