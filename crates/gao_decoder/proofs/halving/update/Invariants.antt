use Rattle.std.proofs.Common.{ℕ, ◌≤◌, ◌<◌, ◌≡◌, get_or}
use Rattle.gao_decoder.specs.Halving.{row_at}
use Rattle.gao_decoder.proofs.halving.update.Given as goal

abbrev pub invariant-loop-i : goal.invariant-loop-i
invariant-loop-i l = record {
  firsts : (k : ℕ) → l.from ≤ k → k < l.i → get_or l.firsts k 0 ≡ row_at l.rows.a.v l.rows.a.r (get_or l.xs k 0) (get_or l.fn.firsts k 0) (get_or l.fn.seconds k 0);
  seconds : (k : ℕ) → l.from ≤ k → k < l.i → get_or l.seconds k 0 ≡ row_at l.rows.b.v l.rows.b.r (get_or l.xs k 0) (get_or l.fn.firsts k 0) (get_or l.fn.seconds k 0);
  firsts_rest : (k : ℕ) → l.i ≤ k → get_or l.firsts k 0 ≡ get_or l.fn.firsts k 0;
  seconds_rest : (k : ℕ) → l.i ≤ k → get_or l.seconds k 0 ≡ get_or l.fn.seconds k 0;
}
