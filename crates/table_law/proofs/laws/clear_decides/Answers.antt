use Rattle.table_law.proofs.ClearTest.{clear_decides}
use Rattle.table_law.proofs.laws.clear_decides.Goals as goal

pub returns : goal.returns
returns c = λ e seed ks table. clear_decides table ks e seed
