-- Groups with their certificates, in the order of the groups.
use Rattle.std.specs.Cmp.{IsTotalOrder}
use Rattle.std.proofs.lemmas.Cmp.{on_total}
use Rattle.layer_walk.proofs.Orders.{path_total}
use Rattle.open_cert.specs.declared.certified.Certified.{Certified}
use Rattle.open_cert.specs.Certs.{by_told_path}

pub told_total : IsTotalOrder by_told_path
told_total = on_total (λ (m : Certified). m.told) path_total
