use Rattle.std.proofs.Common.{◌≡◌, ◌+◌, ◌++◌, length, take, drop, sym, ap, ◌∙◌, subst, arith}
use Rattle.std.specs.Io.KnownBytes.{Consumes}
use Rattle.std.proofs.lemmas.List.{take_all, length-take-le}
use Rattle.book_file.specs.declared.book_kind.BookKind.TheVariants.{Truncated}
use Rattle.book_file.specs.declared.book_error.NextBookError.TheVariants.{Bad}
use Rattle.book_file.specs.Taking.{IsFault, IsJudged}
use Rattle.book_file.proofs.Fields.{field_taken, field_cut, whole_written}
use Rattle.book_file.proofs.from_source.read_bytes.Goals as goal

pub returns-then-have-size-clause-fault : goal.returns-then-have-size-clause-fault
returns-then-have-size-clause-fault g c = λ bytes fault next stands.
    let room : length c.fill.new.into ≡ c.args.size = omega (arith, c.fill.auto.into, c.as_mut_slice.ensures.len, c.in_ok-field.ensures.len) in
    let long : length (take c.in_ok-have.have c.fill.new.into) ≡ c.in_ok-have.have = length-take-le c.in_ok-have.have c.fill.new.into (omega (arith, room, c.if-have-size.true)) in
    subst (IsFault (g.S.Source.left c.fill.new.source) bytes)
    (ap (λ n. Bad (record { kind = Truncated; at = c.args.at; used = c.args.at + n })) long ∙ sym c.bad.ensures)
    (field_cut c.args.size c.args.at fault next bytes (g.S.Source.left c.args.source.now) (g.S.Source.left c.fill.new.source) (take c.in_ok-have.have c.fill.new.into) stands c.in_ok-have.ensures.bytes (c.in_ok-have.ensures.short (omega (arith, room, c.if-have-size.true))) (omega (arith, long, c.if-have-size.true)))

pub returns-clause-next : goal.returns-clause-next
returns-clause-next g c = λ bytes fault next stands.
    let room : length c.fill.new.into ≡ c.args.size = omega (arith, c.fill.auto.into, c.as_mut_slice.ensures.len, c.in_ok-field.ensures.len) in
    let whole : take c.in_ok-have.have c.fill.new.into ≡ c.fill.new.into = take_all c.in_ok-have.have c.fill.new.into (omega (arith, room, c.if-have-size.false)) in
    let size : c.in_ok-field.field.len ≡ length c.fill.new.into = omega (arith, room, c.in_ok-field.ensures.len) in
    let written : take c.in_ok-field.field.len (c.fill.new.into ++ drop (length c.fill.new.into) c.in_ok-field.field.items) ≡ c.fill.new.into = whole_written c.fill.new.into (drop (length c.fill.new.into) c.in_ok-field.field.items) c.in_ok-field.field.len size in
    subst (λ field. IsJudged (fault field) (next field) c.args.at (c.args.at + c.args.size) (g.S.Source.left c.fill.new.source) bytes) (sym written)
    (field_taken c.args.size c.args.at fault next bytes (g.S.Source.left c.args.source.now) (g.S.Source.left c.fill.new.source) c.fill.new.into stands
    (subst (Consumes (g.S.Source.left c.args.source.now) (g.S.Source.left c.fill.new.source)) whole c.in_ok-have.ensures.bytes) room)
