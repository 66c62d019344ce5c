use Rattle.std.proofs.Common.{ℕ, ◌<◌, ◌≤◌, ◌≡◌, get_or, length}
use Rattle.gao_decoder.proofs.sampling.take_sample.Given as goal

abbrev pub invariant-loop-i : goal.invariant-loop-i
invariant-loop-i l = record {
  distinct : (j k : ℕ) → j < k → k < l.i → get_or l.sample_xs j 0 ≡ get_or l.sample_xs k 0 → ⊥;
  ahead : (j k : ℕ) → j < l.i → l.at ≤ k → k < length l.xs → get_or l.sample_xs j 0 ≡ get_or l.xs k 0 → ⊥;
  part : l.part < l.size;
}
