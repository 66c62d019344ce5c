use Rattle.std.proofs.Common.{◌≡◌, ℕ, ◌<◌}
use Rattle.table_law.specs.Fronts.{firsts_of}
use Rattle.table_law.specs.Clear.{IsClearAt}
use Rattle.table_law.specs.Marks.{checks_before}
use Rattle.table_law.proofs.clear.each_layer_is_clear.Given as goal

abbrev pub invariant-layers : goal.invariant-layers
invariant-layers l = record {
  firsts : l.firsts.items ≡ firsts_of l.table l.layer;
  checks : l.checks.items ≡ checks_before l.epoch l.thresholds l.layer l.table;
  clear : (n : ℕ) → n < l.layer → IsClearAt l.table l.thresholds l.epoch l.fn.seed n;
}
