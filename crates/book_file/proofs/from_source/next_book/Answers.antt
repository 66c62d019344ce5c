use Rattle.std.proofs.Common.{◌≡◌, ◌+◌, ◌-◌, suc, arith}
use Rattle.std.proofs.lemmas.Result.{err_from_is_err_and}
use Rattle.book_file.proofs.Fields.{takes_fault, book_ends, entries_at}
use Rattle.book_file.proofs.from_source.next_book.Goals as goal

pub returns-in_err-book-clause-next : goal.returns-in_err-book-clause-next
returns-in_err-book-clause-next g c = λ bytes is.
    let p = err_from_is_err_and c.from_residual-in_err-book.result c.from_residual-in_err-book.ensures.1 in
    rw (p.1, p.2) (takes_fault bytes (g.S.Source.left c.read_header.new.source) c.in_err-book.field-0.0 (c.in_err-book.ensures.fault bytes (c.in_ok-more.ensures.next bytes is c.if-not-more.false)))

pub loop-done-init : goal.loop-done-init
loop-done-init g c =
    let all : c.in_ok-book.number ≡ c.in_ok-book.number - 0 = omega arith in
    record {
      stands = λ bytes is. entries_at c.in_ok-book.number (c.in_ok-book.number - 0) 21 c.in_ok-book.book bytes (g.S.Source.left c.read_header.new.source) all (c.in_ok-book.ensures.next bytes (c.in_ok-more.ensures.next bytes is c.if-not-more.false));
      near = omega arith;
      later = omega (arith, c.in_ok-more.ensures.later, c.in_ok-book.ensures.later);
    }

pub loop-done-preserved : goal.loop-done-preserved
loop-done-preserved g c =
    let here : c.in_ok-book.number - c.loop-done._done ≡ suc (c.in_ok-book.number - (c.loop-done._done + 1)) = omega (arith, c.loop-done-test.true) in
    record {
      stands = λ bytes is. c.in_ok-at.ensures.next bytes (c.in_ok-book.number - (c.loop-done._done + 1)) (entries_at (c.in_ok-book.number - c.loop-done._done) (suc (c.in_ok-book.number - (c.loop-done._done + 1))) c.loop-done.at c.loop-done.book bytes (g.S.Source.left c.loop-done.source) here (c.loop-done.invariant.stands bytes is));
      near = omega (arith, c.loop-done.invariant.near, c.in_ok-at.ensures.end);
      later = omega (arith, c.loop-done.invariant.later, c.in_ok-at.ensures.later);
    }

pub returns-in_err-at-clause-next : goal.returns-in_err-at-clause-next
returns-in_err-at-clause-next g c = λ bytes is.
    let here : c.in_ok-book.number - c.loop-done._done ≡ suc (c.in_ok-book.number - (c.loop-done._done + 1)) = omega (arith, c.loop-done-test.true) in
    let p = err_from_is_err_and c.from_residual-in_err-at.result c.from_residual-in_err-at.ensures.1 in
    rw (p.1, p.2) (takes_fault bytes (g.S.Source.left c.read_entry.new.source) c.in_err-at.field-0.0 (c.in_err-at.ensures.fault bytes (c.in_ok-book.number - (c.loop-done._done + 1)) (entries_at (c.in_ok-book.number - c.loop-done._done) (suc (c.in_ok-book.number - (c.loop-done._done + 1))) c.loop-done.at c.loop-done.book bytes (g.S.Source.left c.loop-done.source) here (c.loop-done.invariant.stands bytes is))))

pub returns-clause-next : goal.returns-clause-next
returns-clause-next g c = λ bytes is.
    book_ends (c.in_ok-book.number - c.loop-done._done) c.loop-done.at c.loop-done.book bytes (g.S.Source.left c.loop-done.source) (omega (arith, c.loop-done-test.false)) (c.loop-done.invariant.stands bytes is)
