use Rattle.std.proofs.Common.{◌≡◌, ℕ, ◌<◌, slice_index}
use Rattle.nest_client.specs.Report.{coins, point_of}
use Rattle.nest_client.proofs.points.layer_points.Given as goal

abbrev pub invariant-layers : goal.invariant-layers
invariant-layers l = (j : ℕ) → j < l.level → slice_index l.points j ≡ point_of (coins l.reporter.client j)
