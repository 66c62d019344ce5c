use Rattle.std.proofs.Common.{◌≡◌, ◌-◌, ◌*◌, ◌++◌, take, replicate}
use Rattle.star_vectors.specs.Vectors.{spelled}
use Rattle.star_vectors.proofs.numbers.spelled.Given as goal

abbrev pub invariant-loop-i : goal.invariant-loop-i
invariant-loop-i l = l.bytes ≡ spelled (take l.i l.numbers) ++ replicate (32 - 8 * l.i) 0
