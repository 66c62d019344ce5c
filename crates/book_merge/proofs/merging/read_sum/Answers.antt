use Rattle.std.proofs.Common.{◌≡◌, ◌∙◌, ℕ, ◌+◌, ◌-◌, List, Option, None, Some, Result, Ok, Err, sym, subst, arith}
use Rattle.book_file.specs.declared.book_error.NextBookError.{NextBookError}
use Rattle.book_file.specs.declared.book_error.NextBookError.TheVariants as next
use Rattle.book_file.specs.declared.book_error.ReadBook.{ReadBook}
use Rattle.book_file.specs.Book.{Book}
use Rattle.book_merge.specs.declared.fault.MergeFault.{MergeFault}
use Rattle.book_merge.specs.Merging.{sum_with}
use Rattle.book_merge.proofs.Sums.{Turn, HasGone, OfEpoch, one_more, all_read, book_past, bad_past, bad_answered, sum_told, fault_told, epoch_kept, epoch_told}
use Rattle.book_merge.proofs.merging.read_sum.Goals as goal

-- what a turn takes that was answered so
turn_of : (middle new : Option (List ℕ)) (result answer : Result (Option ReadBook) NextBookError) → result ≡ answer → Turn middle new result → Turn middle new answer
turn_of middle new result answer is turn = subst (λ (r : Result (Option ReadBook) NextBookError). Turn middle new r) is turn

pub returns-then-room-found-clause-fault : goal.returns-then-room-found-clause-fault
returns-then-room-found-clause-fault g c =
    let is : c.next_book.result ≡ Ok (Some c.in-Ok-Some.found) = cc in
    let middle = g.S.Source.left c.loop-number.input in
    let new = g.S.Source.left c.next_book.new.source in
    book_past c.args.epoch c.loop-number.number c.loop-number.room c.loop-number.so_far c.in-Ok-Some.found _ middle new
    (turn_of middle new c.next_book.result (Ok (Some c.in-Ok-Some.found)) is c.next_book.ensures.next) c.if-room-found.true c.loop-number.invariant.gone

pub returns-in-Ok-None-clause-sum : goal.returns-in-Ok-None-clause-sum
returns-in-Ok-None-clause-sum g c =
    let is : c.next_book.result ≡ Ok None = cc in
    let middle = g.S.Source.left c.loop-number.input in
    let new = g.S.Source.left c.next_book.new.source in
    sum_told c.args.epoch c.loop-number.so_far c.answer_of.result _ new
    (all_read c.args.epoch c.loop-number.number c.loop-number.room c.loop-number.so_far _ middle new (turn_of middle new c.next_book.result (Ok None) is c.next_book.ensures.next) c.loop-number.invariant.gone)
    c.answer_of.ensures

pub returns-in-Ok-None-clause-fault : goal.returns-in-Ok-None-clause-fault
returns-in-Ok-None-clause-fault g c =
    let is : c.next_book.result ≡ Ok None = cc in
    let middle = g.S.Source.left c.loop-number.input in
    let new = g.S.Source.left c.next_book.new.source in
    fault_told c.args.epoch c.loop-number.so_far c.answer_of.result _ new
    (all_read c.args.epoch c.loop-number.number c.loop-number.room c.loop-number.so_far _ middle new (turn_of middle new c.next_book.result (Ok None) is c.next_book.ensures.next) c.loop-number.invariant.gone)
    c.answer_of.ensures

pub returns-in-Ok-None-clause-epoch : goal.returns-in-Ok-None-clause-epoch
returns-in-Ok-None-clause-epoch g c = epoch_told c.args.epoch c.loop-number.so_far c.answer_of.result c.loop-number.invariant.epoch c.answer_of.ensures

pub returns-then-room-bad-clause-fault : goal.returns-then-room-bad-clause-fault
returns-then-room-bad-clause-fault g c =
    let is : c.next_book.result ≡ Err (next.Bad c.in-Err-Bad.bad) = cc in
    let middle = g.S.Source.left c.loop-number.input in
    let new = g.S.Source.left c.next_book.new.source in
    let turn = turn_of middle new c.next_book.result (Err (next.Bad c.in-Err-Bad.bad)) is c.next_book.ensures.next in
    bad_past c.args.epoch c.loop-number.number c.loop-number.room c.loop-number.so_far c.in-Err-Bad.bad _ middle new turn (rw c.in-Err-Bad.field-0-is at c.if-room-bad.true) c.loop-number.invariant.gone

pub returns-in-Err-Bad-clause-fault : goal.returns-in-Err-Bad-clause-fault
returns-in-Err-Bad-clause-fault g c =
    let is : c.next_book.result ≡ Err (next.Bad c.in-Err-Bad.bad) = cc in
    let middle = g.S.Source.left c.loop-number.input in
    let after = g.S.Source.left c.next_book.new.source in
    let new = g.S.Source.left c.told_at_the_end.new.input in
    let fits = rw c.in-Err-Bad.field-0-is at c.if-room-bad.false in
    let judged = rw c.in-Err-Bad.field-0-is at c.fault_with-fault.ensures in
    let end = rw c.in-Err-Bad.field-0-is at c.in_ok-told_at_the_end-in-Err-Bad.ensures.end in
    let more = rw c.in-Err-Bad.field-0-is at c.in_ok-told_at_the_end-in-Err-Bad.ensures.more in
    bad_answered c.args.epoch c.loop-number.number c.loop-number.room c.loop-number.so_far c.in-Err-Bad.bad (g.S.Source.left c.args.input.now) middle after new _
    (turn_of middle after c.next_book.result (Err (next.Bad c.in-Err-Bad.bad)) is c.next_book.ensures.next) fits
    (λ rest here few. let told = end rest here few in (told.0 ∙ judged, told.1)) more c.loop-number.invariant.gone

pub loop-number-preserved : goal.loop-number-preserved
loop-number-preserved g c =
    let is : c.next_book.result ≡ Ok (Some c.in-Ok-Some.found) = cc in
    let found = c.in-Ok-Some.found in
    let middle = g.S.Source.left c.loop-number.input in
    let new = g.S.Source.left c.next_book.new.source in
    let sum : c.in_ok-so_far-in-Ok-Some.so_far ≡ sum_with c.loop-number.number c.loop-number.so_far found.book = c.in_ok-so_far-in-Ok-Some.ensures in
    record {
      few = omega (arith, c.loop-number.invariant.few);
      gone = subst (λ (s : Result Book MergeFault). HasGone c.args.epoch (c.loop-number.number + 1) (c.loop-number.room - found.used) s (g.S.Source.left c.args.input.now) new) (sym sum)
          (one_more c.args.epoch c.loop-number.number c.loop-number.room c.loop-number.so_far found _ middle new (turn_of middle new c.next_book.result (Ok (Some found)) is c.next_book.ensures.next) c.if-room-found.false c.loop-number.invariant.gone);
      epoch = subst (λ (s : Result Book MergeFault). OfEpoch c.args.epoch s) (sym sum) (epoch_kept c.args.epoch c.loop-number.number c.loop-number.so_far found.book c.loop-number.invariant.epoch);
      faults = omega (arith, c.next_book.ensures.later, c.loop-number.invariant.faults);
    }
