use Rattle.std.proofs.Common.{ap, inr, Some, Err}
use Rattle.star_io.proofs.ByteLists.{AreBytes-from_fits}
use Rattle.book_file.specs.declared.book_kind.BookKind.TheVariants.{Truncated}
use Rattle.book_file.specs.declared.book_error.BookError.TheVariants.{Bad}
use Rattle.book_file.proofs.Spelled.{begins_at, read_spelling, only_book, no_book, read_fault, one_fault, no_fault, taken_some, taken_none, taken_bad}
use Rattle.book_file.proofs.from_bytes.read_book.Goals as goal

pub returns-in-Ok-Some-clause-reads : goal.returns-in-Ok-Some-clause-reads
returns-in-Ok-Some-clause-reads c = taken_some c.args.bytes.now (Some c.next_book.new.source.left.now) c.next_book.result c.in-Ok-Some.field-0 c.in-Ok-Some.found c.in-Ok-Some.is c.in-Ok-Some.field-0-is (c.next_book.ensures.next c.args.bytes.now (ap (λ x. Some x) c.new-source.ensures))

pub returns-in-Ok-Some-clause-one : goal.returns-in-Ok-Some-clause-one
returns-in-Ok-Some-clause-one c = λ kind at h. absurd (no_fault c.args.bytes.now c.in-Ok-Some.found (returns-in-Ok-Some-clause-reads c) kind at h)

pub returns-in-Ok-None-clause-reads : goal.returns-in-Ok-None-clause-reads
returns-in-Ok-None-clause-reads c = (0, taken_none c.args.bytes.now (Some c.next_book.new.source.left.now) c.next_book.result c.in-Ok-None.field-0 c.in-Ok-None.is c.in-Ok-None.field-0-is (c.next_book.ensures.next c.args.bytes.now (ap (λ x. Some x) c.new-source.ensures)))

pub returns-in-Ok-None-clause-fault : goal.returns-in-Ok-None-clause-fault
returns-in-Ok-None-clause-fault c = read_fault c.args.bytes.now (record { kind = Truncated; at = 0; used = (returns-in-Ok-None-clause-reads c).0 }) (returns-in-Ok-None-clause-reads c).1

pub returns-in-Ok-None-clause-one : goal.returns-in-Ok-None-clause-one
returns-in-Ok-None-clause-one c = λ kind at h.
    let same = one_fault c.args.bytes.now (record { kind = Truncated; at = 0; used = (returns-in-Ok-None-clause-reads c).0 }) (returns-in-Ok-None-clause-reads c).1 kind at h in
    inr (λ i. Err (Bad (same.0 i) (same.1 i)))

pub returns-in-Err-Bad-clause-reads : goal.returns-in-Err-Bad-clause-reads
returns-in-Err-Bad-clause-reads c = (c.in-Err-Bad.bad.used, taken_bad c.args.bytes.now (Some c.next_book.new.source.left.now) c.next_book.result c.in-Err-Bad.field-0 c.in-Err-Bad.bad c.in-Err-Bad.is c.in-Err-Bad.field-0-is (c.next_book.ensures.next c.args.bytes.now (ap (λ x. Some x) c.new-source.ensures)))

pub returns-in-Err-Bad-clause-fault : goal.returns-in-Err-Bad-clause-fault
returns-in-Err-Bad-clause-fault c = read_fault c.args.bytes.now (record { kind = c.in-Err-Bad.bad.kind; at = c.in-Err-Bad.bad.at; used = (returns-in-Err-Bad-clause-reads c).0 }) (returns-in-Err-Bad-clause-reads c).1

pub returns-in-Err-Bad-clause-one : goal.returns-in-Err-Bad-clause-one
returns-in-Err-Bad-clause-one c = λ kind at h.
    let same = one_fault c.args.bytes.now (record { kind = c.in-Err-Bad.bad.kind; at = c.in-Err-Bad.bad.at; used = (returns-in-Err-Bad-clause-reads c).0 }) (returns-in-Err-Bad-clause-reads c).1 kind at h in
    inr (λ i. Err (Bad (same.0 i) (same.1 i)))

pub returns-in-Ok-Some-clause-found : goal.returns-in-Ok-Some-clause-found
returns-in-Ok-Some-clause-found c = begins_at c.args.bytes.now c.in-Ok-Some.found (AreBytes-from_fits c.args.bytes.now c.type_inv.bytes) (returns-in-Ok-Some-clause-reads c)

pub returns-in-Ok-Some-clause-used : goal.returns-in-Ok-Some-clause-used
returns-in-Ok-Some-clause-used c = (read_spelling c.args.bytes.now c.in-Ok-Some.found (AreBytes-from_fits c.args.bytes.now c.type_inv.bytes) (returns-in-Ok-Some-clause-reads c)).2

pub returns-in-Ok-Some-clause-only : goal.returns-in-Ok-Some-clause-only
returns-in-Ok-Some-clause-only c = λ book rest h. inr (only_book c.args.bytes.now c.in-Ok-Some.found (returns-in-Ok-Some-clause-reads c) book rest h)

pub returns-in-Ok-None-clause-only : goal.returns-in-Ok-None-clause-only
returns-in-Ok-None-clause-only c = λ book rest h. absurd (no_book c.args.bytes.now (record { kind = Truncated; at = 0; used = (returns-in-Ok-None-clause-reads c).0 }) (returns-in-Ok-None-clause-reads c).1 book rest h)

pub returns-in-Err-Bad-clause-only : goal.returns-in-Err-Bad-clause-only
returns-in-Err-Bad-clause-only c = λ book rest h. absurd (no_book c.args.bytes.now (record { kind = c.in-Err-Bad.bad.kind; at = c.in-Err-Bad.bad.at; used = (returns-in-Err-Bad-clause-reads c).0 }) (returns-in-Err-Bad-clause-reads c).1 book rest h)
