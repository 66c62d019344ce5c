use Rattle.field61.proofs.FieldLaws.{commutative_ring}
use Rattle.field61.proofs.laws.commutative_ring.Goals as goal

pub returns : goal.returns
returns c = commutative_ring
