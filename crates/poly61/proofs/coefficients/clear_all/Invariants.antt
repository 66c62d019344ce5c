use Rattle.std.proofs.Common.{ℕ, ◌<◌, ◌≤◌, ◌≡◌, get_or}
use Rattle.poly61.proofs.coefficients.clear_all.Given as goal

abbrev pub invariant-loop-i : goal.invariant-loop-i
invariant-loop-i l = record {
  done : (k : ℕ) → k < l.i → get_or l.coefficients k 0 ≡ 0;
  rest : (k : ℕ) → l.places ≤ k → get_or l.coefficients k 0 ≡ 0;
}
