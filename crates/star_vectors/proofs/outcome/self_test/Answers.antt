use Rattle.std.proofs.Common.{sym, ◌∙◌}
use Rattle.star_vectors.specs.Vectors.{vectors}
use Rattle.star_vectors.proofs.Differing.{goes_on, stops, none_differs}
use Rattle.star_vectors.proofs.outcome.self_test.Goals as goal

pub loop-vector-preserved : goal.loop-vector-preserved
unfolding vectors
loop-vector-preserved c =
    goes_on c.in_ok-vectors.vectors c.loop-vector.vector-index _ c.in_ok-vectors.ensures c.loop-vector-test.true c.loop-vector.invariant (sym c.if-ne.false ∙ c.ne.ensures)

pub returns-then-ne : goal.returns-then-ne
unfolding vectors
returns-then-ne c memory =
    stops c.in_ok-vectors.vectors c.loop-vector.vector-index _ c.in_ok-vectors.ensures c.loop-vector-test.true c.loop-vector.invariant (sym c.if-ne.true ∙ c.ne.ensures)

pub returns : goal.returns
unfolding vectors
returns c memory = none_differs c.loop-vector.vector-index c.loop-vector-test.false c.loop-vector.invariant
