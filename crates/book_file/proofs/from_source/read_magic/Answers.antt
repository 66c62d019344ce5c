use Rattle.std.proofs.Common.{◌≡◌, ◌+◌, length, take, sym, ap, ◌∙◌, subst, arith}
use Rattle.std.specs.Io.KnownBytes.{Consumes}
use Rattle.std.specs.Str.{bytes_eq}
use Rattle.std.proofs.lemmas.List.{take_all, length-take-le}
use Rattle.std.proofs.lemmas.Result.{err_from_is_err_and}
use Rattle.book_file.specs.declared.limits.TheConstants.{BOOK_MAGIC}
use Rattle.book_file.specs.declared.book_kind.BookKind.TheVariants.{Truncated, Magic}
use Rattle.book_file.specs.declared.book_error.NextBookError.TheVariants.{Bad}
use Rattle.book_file.specs.Format.{unless, header_format}
use Rattle.book_file.specs.Taking.{IsFault}
use Rattle.book_file.proofs.Fields.{field_taken, field_cut, magic_field, judged_as, some_taken}
use Rattle.book_file.proofs.from_source.read_magic.Goals as goal

pub returns-then-have-lt8-clause-fault : goal.returns-then-have-lt8-clause-fault
returns-then-have-lt8-clause-fault g c = λ bytes is.
    let long : length (take c.in_ok-have.have c.fill.new.into) ≡ c.in_ok-have.have = length-take-le c.in_ok-have.have c.fill.new.into (omega (arith, c.fill.auto.into, c.if-have-lt8.true)) in
    let some = some_taken bytes (g.S.Source.left c.args.source.now) (g.S.Source.left c.fill.new.source) (take c.in_ok-have.have c.fill.new.into) is c.in_ok-have.ensures.bytes (omega (arith, long, c.if-have-eq0.false)) in
    subst (IsFault (g.S.Source.left c.fill.new.source) bytes)
    (ap (λ n. Bad (record { kind = Truncated; at = 0; used = 0 + n })) long ∙ (let none : 0 + c.in_ok-have.have ≡ c.in_ok-have.have = omega arith in ap (λ n. Bad (record { kind = Truncated; at = 0; used = n })) none) ∙ sym c.bad.ensures)
    (field_cut 8 0 (λ magic. unless (bytes_eq magic BOOK_MAGIC) Magic) (λ _. header_format) bytes (g.S.Source.left c.args.source.now) (g.S.Source.left c.fill.new.source) (take c.in_ok-have.have c.fill.new.into) (magic_field bytes (g.S.Source.left c.args.source.now) is some) c.in_ok-have.ensures.bytes (c.in_ok-have.ensures.short (omega (arith, c.fill.auto.into, c.if-have-lt8.true))) (omega (arith, long, c.if-have-lt8.true)))

pub returns-in_err-judge-clause-fault : goal.returns-in_err-judge-clause-fault
returns-in_err-judge-clause-fault g c = λ bytes is.
    let whole : take c.in_ok-have.have c.fill.new.into ≡ c.fill.new.into = take_all c.in_ok-have.have c.fill.new.into (omega (arith, c.fill.auto.into, c.if-have-lt8.false)) in
    let took = subst (Consumes (g.S.Source.left c.args.source.now) (g.S.Source.left c.fill.new.source)) whole c.in_ok-have.ensures.bytes in
    let some = some_taken bytes (g.S.Source.left c.args.source.now) (g.S.Source.left c.fill.new.source) c.fill.new.into is took (omega (arith, c.fill.auto.into)) in
    let judged = field_taken 8 0 (λ magic. unless (bytes_eq magic BOOK_MAGIC) Magic) (λ _. header_format) bytes (g.S.Source.left c.args.source.now) (g.S.Source.left c.fill.new.source) c.fill.new.into (magic_field bytes (g.S.Source.left c.args.source.now) is some) took c.fill.auto.into in
    let p = err_from_is_err_and c.from_residual-in_err-judge.result c.from_residual-in_err-judge.ensures.1 in
    rw (p.1, p.2) (c.in_err-judge.ensures.fault header_format (g.S.Source.left c.fill.new.source) bytes (judged_as (unless (bytes_eq c.fill.new.into BOOK_MAGIC) Magic) c.magic_fault.result header_format 0 8 (g.S.Source.left c.fill.new.source) bytes c.magic_fault.ensures judged))

pub returns-clause-next : goal.returns-clause-next
returns-clause-next g c = λ bytes is more.
    let whole : take c.in_ok-have.have c.fill.new.into ≡ c.fill.new.into = take_all c.in_ok-have.have c.fill.new.into (omega (arith, c.fill.auto.into, c.if-have-lt8.false)) in
    let took = subst (Consumes (g.S.Source.left c.args.source.now) (g.S.Source.left c.fill.new.source)) whole c.in_ok-have.ensures.bytes in
    let some = some_taken bytes (g.S.Source.left c.args.source.now) (g.S.Source.left c.fill.new.source) c.fill.new.into is took (omega (arith, c.fill.auto.into)) in
    let judged = field_taken 8 0 (λ magic. unless (bytes_eq magic BOOK_MAGIC) Magic) (λ _. header_format) bytes (g.S.Source.left c.args.source.now) (g.S.Source.left c.fill.new.source) c.fill.new.into (magic_field bytes (g.S.Source.left c.args.source.now) is some) took c.fill.auto.into in
    c.in_ok-judge.ensures.fine header_format (g.S.Source.left c.fill.new.source) bytes (judged_as (unless (bytes_eq c.fill.new.into BOOK_MAGIC) Magic) c.magic_fault.result header_format 0 8 (g.S.Source.left c.fill.new.source) bytes c.magic_fault.ensures judged)
