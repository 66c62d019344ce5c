use Rattle.std.proofs.Common.{◌≡◌, map}
use Rattle.open_cert.specs.declared.certified.Certified.{Certified}
use Rattle.open_cert.proofs.ordered.certs_alone.Given as goal

abbrev pub invariant-loop-cert : goal.invariant-loop-cert
invariant-loop-cert l = l.certs.items ≡ map (λ (c : Certified). c.cert) l.yielded
