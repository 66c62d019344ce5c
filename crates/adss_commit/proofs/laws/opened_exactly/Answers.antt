use Rattle.adss_commit.proofs.Honest.{opened_exactly}
use Rattle.adss_commit.proofs.laws.opened_exactly.Goals as goal

pub returns : goal.returns
returns c = opened_exactly
