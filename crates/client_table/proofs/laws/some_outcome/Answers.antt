use Rattle.client_table.proofs.Places.{some-outcome}
use Rattle.client_table.proofs.laws.some_outcome.Goals as goal

pub returns : goal.returns
returns c = some-outcome
