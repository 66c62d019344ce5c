use Rattle.std.proofs.Common.{subst}
use Rattle.std.proofs.lemmas.List.{take_all}
use Rattle.std.proofs.lemmas.List.Elements.{All-more}
use Rattle.layer_walk.specs.Laws.{IsByteRecord, AreByteRecords}
use Rattle.open_cert.proofs.certs.know_records.Goals as goal

pub loop-item-preserved : goal.loop-item-preserved
loop-item-preserved c =
    All-more IsByteRecord c.args.records.now c.loop-item.item-index c.item-item.result c.loop-item-test.true c.loop-item.invariant
    (subst IsByteRecord c.item-item.is c.know_record.ensures)

pub returns : goal.returns
returns c = subst AreByteRecords (take_all c.loop-item.item-index c.args.records.now c.loop-item-test.false) c.loop-item.invariant
