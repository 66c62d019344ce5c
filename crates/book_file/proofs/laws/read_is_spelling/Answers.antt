use Rattle.book_file.proofs.Spelled.{read_spelling}
use Rattle.book_file.proofs.laws.read_is_spelling.Goals as goal

pub returns : goal.returns
returns c = read_spelling
