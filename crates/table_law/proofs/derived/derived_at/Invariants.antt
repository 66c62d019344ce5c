use Rattle.std.proofs.Common.{◌≡◌, take, map}
use Rattle.adss_commit.specs.Derivation.{derived}
use Rattle.table_law.specs.Layers.{layer_context}
use Rattle.table_law.proofs.derived.derived_at.Given as goal

abbrev pub invariant-rows : goal.invariant-rows
invariant-rows l = l.derived.items ≡ map (λ row. derived (layer_context l.epoch l.thresholds l.layer row)) (take l.i l.table)
