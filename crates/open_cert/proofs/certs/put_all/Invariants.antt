use Rattle.std.proofs.Common.{◌≡◌, ◌++◌}
use Rattle.open_cert.proofs.certs.put_all.Given as goal

abbrev pub invariant-loop-one : goal.invariant-loop-one
invariant-loop-one l = l.made.items ≡ l.initial.made.items ++ l.yielded
