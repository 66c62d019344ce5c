use Rattle.std.proofs.Common.{ℕ, ◌≤◌, ◌<◌, ◌≡◌, get_or}
use Rattle.gao_decoder.specs.Halving.{TakesTo}
use Rattle.gao_decoder.proofs.halving.leaf.Given as goal

abbrev pub invariant-loop-j : goal.invariant-loop-j
invariant-loop-j l = record {
  taken : (k : ℕ) → l.from ≤ k → k < l.to → TakesTo l.rows.a.v l.rows.a.r l.rows.b.v l.rows.b.r (get_or l.xs k 0) (get_or l.fn.firsts k 0) (get_or l.fn.seconds k 0) (get_or l.firsts k 0) (get_or l.seconds k 0);
  zero : (k : ℕ) → l.from ≤ k → k < l.j → (get_or l.firsts k 0 ≡ 0) × (get_or l.seconds k 0 ≡ 0);
  firsts_rest : (k : ℕ) → l.to ≤ k → get_or l.firsts k 0 ≡ get_or l.fn.firsts k 0;
  seconds_rest : (k : ℕ) → l.to ≤ k → get_or l.seconds k 0 ≡ get_or l.fn.seconds k 0;
}
