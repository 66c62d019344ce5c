use Rattle.std.proofs.Common.{◌≡◌, ℕ, ◌<◌, length, take, slice_index}
use Rattle.std.specs.Prelude.{◌==◌, count_by}
use Rattle.table_law.proofs.counts.counts_of.Given as goal

abbrev pub invariant-numbers : goal.invariant-numbers
invariant-numbers l =
    (length l.counts.items ≡ length l.numbers)
    × ((j : ℕ) → j < length l.numbers → slice_index l.counts.items j ≡ count_by (λ n. n == j) (take l.n-index l.numbers))
