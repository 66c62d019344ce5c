use Rattle.std.proofs.Common.{ℕ, ◌<◌, ◌≡◌, get_or}
use Rattle.field61.specs.Field.{field_negative}
use Rattle.gao_decoder.proofs.halving.find_row.Given as goal

abbrev pub invariant-loop-i : goal.invariant-loop-i
invariant-loop-i l = record {
  firsts : (k : ℕ) → k < l.i → get_or l.firsts k 0 ≡ get_or l.ys k 0;
  seconds : (k : ℕ) → k < l.i → get_or l.seconds k 0 ≡ field_negative 1;
}
