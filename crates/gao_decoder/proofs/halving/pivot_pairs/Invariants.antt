use Rattle.std.proofs.Common.{ℕ, ◌≤◌, ◌<◌, ◌≡◌, ◌⊎◌, get_or}
use Rattle.field61.specs.Field.{field_sum, field_product, field_difference}
use Rattle.gao_decoder.proofs.halving.pivot_pairs.Given as goal

abbrev pub invariant-loop-i : goal.invariant-loop-i
invariant-loop-i l = record {
  pivots : (k : ℕ) → l.j ≤ k → k < l.i → get_or l.pivots k 0 ≡ field_product (get_or l.fn.pivots k 0) (field_difference (get_or l.xs k 0) (get_or l.xs l.j 0));
  others : (k : ℕ) → l.j ≤ k → k < l.i → get_or l.others k 0 ≡ field_sum (field_product (get_or l.fn.others k 0) l.p) (field_product (get_or l.fn.pivots k 0) l.n);
  pivots_rest : (k : ℕ) → (k < l.j) ⊎ (l.i ≤ k) → get_or l.pivots k 0 ≡ get_or l.fn.pivots k 0;
  others_rest : (k : ℕ) → (k < l.j) ⊎ (l.i ≤ k) → get_or l.others k 0 ≡ get_or l.fn.others k 0;
}
