use Rattle.std.proofs.Common.{sym, subst}
use Rattle.star_io.specs.Bytes.{AreBytes}
use Rattle.layer_walk.specs.Laws.{IsByteRecord}
use Rattle.open_cert.proofs.certs.know_record.Goals as goal

pub returns-in-Whole : goal.returns-in-Whole
returns-in-Whole c = subst IsByteRecord (sym c.in-Whole.is) (subst AreBytes c.as_slice.ensures c.know_bytes.ensures)
