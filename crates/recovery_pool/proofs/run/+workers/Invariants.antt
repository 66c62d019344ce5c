use Rattle.std.proofs.Common.{◌+◌, ◌*◌}
use Rattle.recovery_pool.proofs.run.+workers.Given as goal

abbrev pub decreases-run_workers : goal.decreases-run_workers
decreases-run_workers g l = 2 * l.pass.share

abbrev pub decreases-front : goal.decreases-front
decreases-front g l = 2 * l.pass.share + 1

abbrev pub decreases-back : goal.decreases-back
decreases-back g l = 2 * l.other.share + 1
