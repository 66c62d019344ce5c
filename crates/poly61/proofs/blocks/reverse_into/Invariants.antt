use Rattle.std.proofs.Common.{ℕ, ◌<◌, ◌≡◌, ◌-◌, get_or}
use Rattle.poly61.proofs.blocks.reverse_into.Given as goal

abbrev pub invariant-loop-i : goal.invariant-loop-i
invariant-loop-i l = (k : ℕ) → k < l.i → get_or l.work k 0 ≡ get_or l.coefficients (l.n - 1 - k) 0
