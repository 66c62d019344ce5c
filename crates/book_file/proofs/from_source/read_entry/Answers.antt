use Rattle.std.proofs.Common.{◌+◌, sym, ap, ◌∙◌, refl, subst, arith}
use Rattle.std.proofs.lemmas.Result.{err_from_is_err_and}
use Rattle.std.specs.Int.{w16, from_be_bytes}
use Rattle.book_file.specs.Format.{never, with_entry, entries_format, count_fault, frame_fault}
use Rattle.book_file.specs.Taking.{Stands}
use Rattle.book_file.proofs.Fields.{judged_fine, judged_as, judged_to, field_at, entry_field, after_frame, after_size, after_count, count_wrong}
use Rattle.book_file.proofs.from_source.read_entry.Goals as goal

pub returns-in_err-count-clause-fault : goal.returns-in_err-count-clause-fault
returns-in_err-count-clause-fault g c = λ bytes n stands.
    let first = entry_field n c.args.at c.args.book.now bytes (g.S.Source.left c.args.source.now) stands in
    let p = err_from_is_err_and c.from_residual.result c.from_residual.ensures.1 in
    rw (p.1, p.2) (c.in_err-count.ensures.fault bytes (count_wrong c.args.book.now) (after_count n c.args.book.now) first)

pub returns-in_err-judge-clause-fault : goal.returns-in_err-judge-clause-fault
returns-in_err-judge-clause-fault g c = λ bytes n stands.
    let first = entry_field n c.args.at c.args.book.now bytes (g.S.Source.left c.args.source.now) stands in
    let counted = judged_as (count_wrong c.args.book.now c.in_ok-count.count) c.count_fault.result (after_count n c.args.book.now c.in_ok-count.count) c.args.at (c.args.at + 4) (g.S.Source.left c.read_field.new.source) bytes (c.count_fault.ensures ∙ ap (count_fault c.args.book.now) c.from_be_bytes-count.ensures) (c.in_ok-count.ensures.next bytes (count_wrong c.args.book.now) (after_count n c.args.book.now) first) in
    let p = err_from_is_err_and c.from_residual-in_err-judge.result c.from_residual-in_err-judge.ensures.1 in
    rw (p.1, p.2) (c.in_err-judge.ensures.fault (after_count n c.args.book.now c.in_ok-count.count) (g.S.Source.left c.read_field.new.source) bytes counted)

pub returns-in_err-size-clause-fault : goal.returns-in_err-size-clause-fault
returns-in_err-size-clause-fault g c = λ bytes n stands.
    let first = entry_field n c.args.at c.args.book.now bytes (g.S.Source.left c.args.source.now) stands in
    let counted = judged_as (count_wrong c.args.book.now c.in_ok-count.count) c.count_fault.result (after_count n c.args.book.now c.in_ok-count.count) c.args.at (c.args.at + 4) (g.S.Source.left c.read_field.new.source) bytes (c.count_fault.ensures ∙ ap (count_fault c.args.book.now) c.from_be_bytes-count.ensures) (c.in_ok-count.ensures.next bytes (count_wrong c.args.book.now) (after_count n c.args.book.now) first) in
    let second = c.in_ok-judge.ensures.fine (after_count n c.args.book.now c.in_ok-count.count) (g.S.Source.left c.read_field.new.source) bytes counted in
    let p = err_from_is_err_and c.from_residual-in_err-size.result c.from_residual-in_err-size.ensures.1 in
    rw (p.1, p.2) (c.in_err-size.ensures.fault bytes never (after_size n c.args.book.now c.in_ok-count.count) second)

pub returns-in_err-frame-clause-fault : goal.returns-in_err-frame-clause-fault
returns-in_err-frame-clause-fault g c = λ bytes n stands.
    let first = entry_field n c.args.at c.args.book.now bytes (g.S.Source.left c.args.source.now) stands in
    let counted = judged_as (count_wrong c.args.book.now c.in_ok-count.count) c.count_fault.result (after_count n c.args.book.now c.in_ok-count.count) c.args.at (c.args.at + 4) (g.S.Source.left c.read_field.new.source) bytes (c.count_fault.ensures ∙ ap (count_fault c.args.book.now) c.from_be_bytes-count.ensures) (c.in_ok-count.ensures.next bytes (count_wrong c.args.book.now) (after_count n c.args.book.now) first) in
    let second = c.in_ok-judge.ensures.fine (after_count n c.args.book.now c.in_ok-count.count) (g.S.Source.left c.read_field.new.source) bytes counted in
    let sized = judged_fine (never c.in_ok-size.size) (after_size n c.args.book.now c.in_ok-count.count c.in_ok-size.size) (c.args.at + 4) (c.args.at + 4 + 2) (g.S.Source.left c.read_field-2.new.source) bytes refl (c.in_ok-size.ensures.next bytes never (after_size n c.args.book.now c.in_ok-count.count) second) in
    let third = field_at (from_be_bytes w16 c.in_ok-size.size) c.from.result (c.args.at + 4 + 2) (c.args.at + 6) (frame_fault c.args.book.now) (after_frame n c.args.book.now c.in_ok-count.count) bytes (g.S.Source.left c.read_field-2.new.source) (c.from.ensures ∙ c.from_be_bytes-size.ensures) (omega arith) sized in
    let p = err_from_is_err_and c.from_residual-in_err-frame.result c.from_residual-in_err-frame.ensures.1 in
    rw (p.1, p.2) (c.in_err-frame.ensures.fault bytes (frame_fault c.args.book.now) (after_frame n c.args.book.now c.in_ok-count.count) third)

pub returns-in_err-judge-2-clause-fault : goal.returns-in_err-judge-2-clause-fault
returns-in_err-judge-2-clause-fault g c = λ bytes n stands.
    let first = entry_field n c.args.at c.args.book.now bytes (g.S.Source.left c.args.source.now) stands in
    let counted = judged_as (count_wrong c.args.book.now c.in_ok-count.count) c.count_fault.result (after_count n c.args.book.now c.in_ok-count.count) c.args.at (c.args.at + 4) (g.S.Source.left c.read_field.new.source) bytes (c.count_fault.ensures ∙ ap (count_fault c.args.book.now) c.from_be_bytes-count.ensures) (c.in_ok-count.ensures.next bytes (count_wrong c.args.book.now) (after_count n c.args.book.now) first) in
    let second = c.in_ok-judge.ensures.fine (after_count n c.args.book.now c.in_ok-count.count) (g.S.Source.left c.read_field.new.source) bytes counted in
    let sized = judged_fine (never c.in_ok-size.size) (after_size n c.args.book.now c.in_ok-count.count c.in_ok-size.size) (c.args.at + 4) (c.args.at + 4 + 2) (g.S.Source.left c.read_field-2.new.source) bytes refl (c.in_ok-size.ensures.next bytes never (after_size n c.args.book.now c.in_ok-count.count) second) in
    let third = field_at (from_be_bytes w16 c.in_ok-size.size) c.from.result (c.args.at + 4 + 2) (c.args.at + 6) (frame_fault c.args.book.now) (after_frame n c.args.book.now c.in_ok-count.count) bytes (g.S.Source.left c.read_field-2.new.source) (c.from.ensures ∙ c.from_be_bytes-size.ensures) (omega arith) sized in
    let judged = judged_to (frame_fault c.args.book.now c.in_ok-frame.frame.items) c.frame_fault.result (after_frame n c.args.book.now c.in_ok-count.count c.in_ok-frame.frame.items) (c.args.at + 6) (c.args.at + 6 + c.from.result) (c.args.at + 6 + c.from-2.result) (g.S.Source.left c.read_bytes.new.source) bytes (c.frame_fault.ensures ∙ ap (frame_fault c.args.book.now) c.from_vec-frame.ensures) (ap (λ m. c.args.at + 6 + m) (c.from-2.ensures ∙ sym c.from.ensures)) (c.in_ok-frame.ensures.next bytes (frame_fault c.args.book.now) (after_frame n c.args.book.now c.in_ok-count.count) third) in
    let p = err_from_is_err_and c.from_residual-in_err-judge-2.result c.from_residual-in_err-judge-2.ensures.1 in
    rw (p.1, p.2) (c.in_err-judge-2.ensures.fault (after_frame n c.args.book.now c.in_ok-count.count c.in_ok-frame.frame.items) (g.S.Source.left c.read_bytes.new.source) bytes judged)

pub returns-clause-next : goal.returns-clause-next
returns-clause-next g c = λ bytes n stands.
    let first = entry_field n c.args.at c.args.book.now bytes (g.S.Source.left c.args.source.now) stands in
    let counted = judged_as (count_wrong c.args.book.now c.in_ok-count.count) c.count_fault.result (after_count n c.args.book.now c.in_ok-count.count) c.args.at (c.args.at + 4) (g.S.Source.left c.read_field.new.source) bytes (c.count_fault.ensures ∙ ap (count_fault c.args.book.now) c.from_be_bytes-count.ensures) (c.in_ok-count.ensures.next bytes (count_wrong c.args.book.now) (after_count n c.args.book.now) first) in
    let second = c.in_ok-judge.ensures.fine (after_count n c.args.book.now c.in_ok-count.count) (g.S.Source.left c.read_field.new.source) bytes counted in
    let sized = judged_fine (never c.in_ok-size.size) (after_size n c.args.book.now c.in_ok-count.count c.in_ok-size.size) (c.args.at + 4) (c.args.at + 4 + 2) (g.S.Source.left c.read_field-2.new.source) bytes refl (c.in_ok-size.ensures.next bytes never (after_size n c.args.book.now c.in_ok-count.count) second) in
    let third = field_at (from_be_bytes w16 c.in_ok-size.size) c.from.result (c.args.at + 4 + 2) (c.args.at + 6) (frame_fault c.args.book.now) (after_frame n c.args.book.now c.in_ok-count.count) bytes (g.S.Source.left c.read_field-2.new.source) (c.from.ensures ∙ c.from_be_bytes-size.ensures) (omega arith) sized in
    let judged = judged_to (frame_fault c.args.book.now c.in_ok-frame.frame.items) c.frame_fault.result (after_frame n c.args.book.now c.in_ok-count.count c.in_ok-frame.frame.items) (c.args.at + 6) (c.args.at + 6 + c.from.result) (c.args.at + 6 + c.from-2.result) (g.S.Source.left c.read_bytes.new.source) bytes (c.frame_fault.ensures ∙ ap (frame_fault c.args.book.now) c.from_vec-frame.ensures) (ap (λ m. c.args.at + 6 + m) (c.from-2.ensures ∙ sym c.from.ensures)) (c.in_ok-frame.ensures.next bytes (frame_fault c.args.book.now) (after_frame n c.args.book.now c.in_ok-count.count) third) in
    let stands = c.in_ok-judge-2.ensures.fine (after_frame n c.args.book.now c.in_ok-count.count c.in_ok-frame.frame.items) (g.S.Source.left c.read_bytes.new.source) bytes judged in
    let pushed = c.in_ok-push.ensures.pushed ∙ (λ i. with_entry c.args.book.now (c.from_vec-frame.ensures i) (c.from_be_bytes-count.ensures i)) in
    subst (λ book. Stands (entries_format n book) (c.args.at + 6 + c.from-2.result) (g.S.Source.left c.read_bytes.new.source) bytes) (sym pushed) stands
