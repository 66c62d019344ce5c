use Rattle.std.proofs.Common.{◌≡◌, ◌+◌, length, take, sym, ap, ◌∙◌, subst, arith}
use Rattle.std.specs.Io.KnownBytes.{Consumes}
use Rattle.std.proofs.lemmas.List.{take_all, length-take-le, length-replicate}
use Rattle.book_file.specs.declared.book_kind.BookKind.TheVariants.{Truncated}
use Rattle.book_file.specs.declared.book_error.NextBookError.TheVariants.{Bad}
use Rattle.book_file.specs.Taking.{IsFault}
use Rattle.book_file.proofs.Fields.{field_taken, field_cut}
use Rattle.book_file.proofs.from_source.read_field.Goals as goal

pub returns-then-have-clause-fault : goal.returns-then-have-clause-fault
returns-then-have-clause-fault g c = λ bytes fault next stands.
    let room : length c.fill.new.into ≡ g.row.N = c.fill.auto.into ∙ length-replicate g.row.N 0 in
    let long : length (take c.in_ok-have.have c.fill.new.into) ≡ c.in_ok-have.have = length-take-le c.in_ok-have.have c.fill.new.into (omega (arith, room, c.if-have.true)) in
    subst (IsFault (g.S.Source.left c.fill.new.source) bytes)
    (ap (λ n. Bad (record { kind = Truncated; at = c.args.at; used = c.args.at + n })) long ∙ sym c.bad.ensures)
    (field_cut g.row.N c.args.at fault next bytes (g.S.Source.left c.args.source.now) (g.S.Source.left c.fill.new.source) (take c.in_ok-have.have c.fill.new.into) stands c.in_ok-have.ensures.bytes (c.in_ok-have.ensures.short (omega (arith, room, c.if-have.true))) (omega (arith, long, c.if-have.true)))

pub returns-clause-next : goal.returns-clause-next
returns-clause-next g c = λ bytes fault next stands.
    let room : length c.fill.new.into ≡ g.row.N = c.fill.auto.into ∙ length-replicate g.row.N 0 in
    let whole : take c.in_ok-have.have c.fill.new.into ≡ c.fill.new.into = take_all c.in_ok-have.have c.fill.new.into (omega (arith, room, c.if-have.false)) in
    field_taken g.row.N c.args.at fault next bytes (g.S.Source.left c.args.source.now) (g.S.Source.left c.fill.new.source) c.fill.new.into stands
    (subst (Consumes (g.S.Source.left c.args.source.now) (g.S.Source.left c.fill.new.source)) whole c.in_ok-have.ensures.bytes) room
