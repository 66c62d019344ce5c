use Rattle.std.proofs.Common.{◌≡◌, ◌≤◌, ◌+◌, ◌*◌, length, take}
use Rattle.nest_client.specs.Place.{report_bytes}
use Rattle.nest_client.proofs.limits.report_bytes.Given as goal

abbrev pub invariant-layers : goal.invariant-layers
invariant-layers l = record {
  bytes : l.bytes ≡ report_bytes (take l.i l.values) l.extra;
  most : l.bytes ≤ 202 * l.i + length l.extra;
}
