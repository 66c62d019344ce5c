use Rattle.std.proofs.Common.{◌≡◌, replicate}
use Rattle.report_frame.specs.declared.limits.TheConstants.{CHECK_BYTES}
use Rattle.table_law.proofs.derived.no_checks.Given as goal

abbrev pub invariant-rows : goal.invariant-rows
invariant-rows l = l.checks.items ≡ replicate l._i (replicate CHECK_BYTES 0)
