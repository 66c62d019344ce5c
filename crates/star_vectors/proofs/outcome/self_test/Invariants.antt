use Rattle.std.proofs.Common.{◌≡◌, drop}
use Rattle.star_vectors.specs.Vectors.{vectors}
use Rattle.star_vectors.specs.Comparison.{first_differing}
use Rattle.star_vectors.proofs.outcome.self_test.Given as goal

abbrev pub invariant-loop-vector : goal.invariant-loop-vector
invariant-loop-vector l = first_differing vectors ≡ first_differing (drop l.vector-index vectors)
