use Rattle.star_io.proofs.ByteLists.{AreBytes-from_fits}
use Rattle.open_cert.proofs.certs.know_bytes.Goals as goal

pub returns : goal.returns
returns c = AreBytes-from_fits _ c.type_inv.bytes
