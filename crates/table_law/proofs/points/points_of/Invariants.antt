use Rattle.std.proofs.Common.{◌≡◌, ℕ, ◌<◌, [], length, get_or, slice_index}
use Rattle.report_frame.specs.declared.version.Version.TheVariants.{One}
use Rattle.nest_client.specs.Report.{client_of, coins, point_of}
use Rattle.table_law.proofs.points.points_of.Given as goal

abbrev pub invariant-rows : goal.invariant-rows
invariant-rows l = record {
  long : length l.points.items ≡ l.i;
  each : (e i n : ℕ) → i < l.i → n < l.layers → slice_index (get_or l.points.items i []) n ≡ point_of (coins (client_of One e l.seed i) n);
}
