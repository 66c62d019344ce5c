use Rattle.std.proofs.Common.{◌≡◌, take}
use Rattle.std.specs.List.{flat_map}
use Rattle.cert_audit.specs.Certificate.{cert_spelling}
use Rattle.star_tool.proofs.verbs.certify.certs_bytes.Given as goal

abbrev pub invariant-loop-cert : goal.invariant-loop-cert
invariant-loop-cert l = l.bytes.items ≡ flat_map cert_spelling (take l.cert-index l.certs)
