use Rattle.std.proofs.Common.{◌≡◌, ℕ, suc, ◌<◌, [], length, get_or}
use Rattle.star_lists.specs.Numbered.{joined_below}
use Rattle.table_law.specs.Prefixes.{value_at, prefixes_of}
use Rattle.table_law.specs.Fronts.{firsts_of, opens_of}
use Rattle.table_law.specs.Reveals.{IsValue}
use Rattle.table_law.proofs.prefixes.prefixes_by_length.Given as goal

abbrev pub invariant-layers : goal.invariant-layers
invariant-layers l = record {
  groups : l.groups.items ≡ joined_below (λ n. prefixes_of l.table l.thresholds (suc n)) l.layer;
  firsts : l.firsts.items ≡ firsts_of l.table l.layer;
  opens : l.opens.items ≡ opens_of l.table l.thresholds l.layer;
  values : (n : ℕ) → n < l.layer → (i : ℕ) → i < length l.table → IsValue (value_at (get_or l.table i []) n);
}
