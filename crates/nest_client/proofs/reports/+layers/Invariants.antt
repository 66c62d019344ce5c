use Rattle.std.proofs.Common.{◌+◌, ◌*◌, length}
use Rattle.nest_client.proofs.reports.+layers.Given as goal

abbrev pub decreases-write_frame : goal.decreases-write_frame
decreases-write_frame l = 2 * length l.values.now

abbrev pub decreases-write_plain_body : goal.decreases-write_plain_body
decreases-write_plain_body l = 2 * length l.values.now + 1
