use Rattle.star_io.specs.Records.{AreRecords}
use Rattle.star_io.specs.RecordLists.{whole}
use Rattle.nest_client.specs.Stream.{first_of, row2_frame}
use Rattle.nest_client.proofs.stream.make_text2.Given as goal

abbrev pub invariant-rows : goal.invariant-rows
invariant-rows l = AreRecords (whole (first_of (row2_frame l.table l.thresholds l.epoch l.seed) l.i)) l.text.items
