use Rattle.star_io.specs.Records.{AreRecords}
use Rattle.star_io.specs.RecordLists.{whole}
use Rattle.nest_client.specs.Stream.{first_of}
use Rattle.nest_client.specs.Generator.{drawn_frame}
use Rattle.nest_client.proofs.generator.gen_text.Given as goal

abbrev pub invariant-reports : goal.invariant-reports
invariant-reports l = AreRecords (whole (first_of (drawn_frame l.number l.liars) l.i)) l.text.items
