use Rattle.std.proofs.Common.{[], refl, arith}
use Rattle.layer_walk.proofs.Firsts.{stands_empty}
use Rattle.layer_walk.proofs.walk.Walk.new.Goals as goal

pub invariant_of-result : goal.invariant_of-result
invariant_of-result c = record { records = []; stands = stands_empty _ refl c.new.ensures c.new-2.ensures; few = omega arith }

pub returns-clause-stands : goal.returns-clause-stands
returns-clause-stands c = stands_empty _ refl c.new.ensures c.new-2.ensures
