use Rattle.std.proofs.Common.{◌+◌, ◌-◌, ◌≤◌, ◌≡◌, get_or, length}
use Rattle.poly61.specs.Poly.{HasDegree, HasDegreeBelow}
use Rattle.gao_decoder.specs.Sequence.{IsTied}
use Rattle.gao_decoder.proofs.sequence.reduce.Given as goal

abbrev pub invariant-loop-shift : goal.invariant-loop-shift
invariant-loop-shift l = record {
  room : length l.upper ≡ length l.fn.upper;
  cofactor_room : length l.upper_cofactor ≡ length l.fn.upper_cofactor;
  tied : IsTied l.upper l.upper_cofactor l.xs l.ys;
  below : HasDegreeBelow l.upper (l.low + l.shift);
  first : l.shift ≡ l.top - l.low + 1 → get_or l.upper l.top 0 ≡ 0 → ⊥;
  first_cofactor : l.shift ≡ l.top - l.low + 1 → HasDegreeBelow l.upper_cofactor l.cofactor_top;
  later : l.shift ≤ l.top - l.low → HasDegree l.upper_cofactor (l.cofactor_top + (l.top - l.low));
}
