use Rattle.open_cert.proofs.Steps.{IsHere}
use Rattle.open_cert.proofs.certs.certs_of.Given as goal

abbrev pub invariant-loop-done : goal.invariant-loop-done
invariant-loop-done l = IsHere l.epoch l.records l._done l.here l.made.items
