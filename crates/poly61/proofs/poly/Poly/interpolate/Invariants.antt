use Rattle.std.proofs.Common.{ℕ, ◌+◌, ◌<◌, ◌≤◌, ◌≡◌, get_or, length}
use Rattle.poly61.specs.Poly.{value, HasDegreeBelow}
use Rattle.poly61.proofs.poly.Poly.interpolate.Given as goal

abbrev pub invariant-loop-i : goal.invariant-loop-i
invariant-loop-i l = record {
  room : length l.self ≡ length l.fn.self;
  work_room : length l.work ≡ length l.fn.work;
  below : HasDegreeBelow l.self l.i;
  work_below : HasDegreeBelow l.work (l.i + 1);
  done : (k : ℕ) → k < l.i → value l.self (get_or l.xs k 0) ≡ get_or l.ys k 0;
  zero : (k : ℕ) → k < l.i → value l.work (get_or l.xs k 0) ≡ 0;
  ahead : (k : ℕ) → l.i ≤ k → k < length l.xs → value l.work (get_or l.xs k 0) ≡ 0 → ⊥;
}
