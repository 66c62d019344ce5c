use Rattle.std.proofs.Common.{◌≡◌, take, sym, ◌∙◌, arith}
use Rattle.std.proofs.lemmas.List.{take_all}
use Rattle.star_io.proofs.NextRecord.{continues}
use Rattle.star_io.proofs.read_record.read_record.Goals as goal

pub returns-clause-next : goal.returns-clause-next
returns-clause-next g c =
    let have = c.in_ok-have.have in
    let length = c.fill.new.into in
    let whole : take have length ≡ length = take_all have length (omega arith) in
    continues _ (g.S.Source.left c.fill.new.source) _ (take have length) c.said_by-said.result c.in_ok-record.record (c.said_by-said.ensures ∙ sym whole) c.in_ok-have.ensures.bytes c.in_ok-record.ensures.next
