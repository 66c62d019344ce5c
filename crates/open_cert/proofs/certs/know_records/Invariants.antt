use Rattle.std.proofs.Common.{take}
use Rattle.layer_walk.specs.Laws.{AreByteRecords}
use Rattle.open_cert.proofs.certs.know_records.Given as goal

abbrev pub invariant-loop-item : goal.invariant-loop-item
invariant-loop-item l = AreByteRecords (take l.item-index l.records)
