use Rattle.std.proofs.Common.{refl, sym, ap, ◌∙◌, subst}
use Rattle.std.specs.Prelude.{not, nat_lt, []}
use Rattle.std.specs.Int.{w32, from_be_bytes}
use Rattle.std.proofs.lemmas.Result.{err_from_is_err_and}
use Rattle.star_io.specs.declared.record.TheConstants.{MAX_RECORDS}
use Rattle.book_file.specs.declared.book_kind.BookKind.TheVariants.{Count}
use Rattle.book_file.specs.declared.limits.TheConstants.{HEADER_BYTES}
use Rattle.book_file.specs.Format.{never, unless, entries_format}
use Rattle.book_file.specs.Taking.{Stands}
use Rattle.book_file.proofs.Fields.{judged_fine, judged_as, version_wrong, after_version, after_epoch, dropped_wrong, after_dropped, after_number}
use Rattle.book_file.proofs.from_source.read_header.Goals as goal

pub returns-in_err-judge-clause-fault : goal.returns-in_err-judge-clause-fault
returns-in_err-judge-clause-fault g c = λ bytes stands.
    let judged = judged_as (version_wrong c.in_ok-version.version) c.version_fault.result (after_version c.in_ok-version.version) 8 9 (g.S.Source.left c.read_field.new.source) bytes c.version_fault.ensures (c.in_ok-version.ensures.next bytes version_wrong after_version stands) in
    let p = err_from_is_err_and c.from_residual-in_err-judge.result c.from_residual-in_err-judge.ensures.1 in
    rw (p.1, p.2) (c.in_err-judge.ensures.fault (after_version c.in_ok-version.version) (g.S.Source.left c.read_field.new.source) bytes judged)

pub returns-in_err-epoch-clause-fault : goal.returns-in_err-epoch-clause-fault
returns-in_err-epoch-clause-fault g c = λ bytes stands.
    let judged = judged_as (version_wrong c.in_ok-version.version) c.version_fault.result (after_version c.in_ok-version.version) 8 9 (g.S.Source.left c.read_field.new.source) bytes c.version_fault.ensures (c.in_ok-version.ensures.next bytes version_wrong after_version stands) in
    let second = c.in_ok-judge.ensures.fine (after_version c.in_ok-version.version) (g.S.Source.left c.read_field.new.source) bytes judged in
    let p = err_from_is_err_and c.from_residual-in_err-epoch.result c.from_residual-in_err-epoch.ensures.1 in
    rw (p.1, p.2) (c.in_err-epoch.ensures.fault bytes never after_epoch second)

pub returns-in_err-dropped-clause-fault : goal.returns-in_err-dropped-clause-fault
returns-in_err-dropped-clause-fault g c = λ bytes stands.
    let judged = judged_as (version_wrong c.in_ok-version.version) c.version_fault.result (after_version c.in_ok-version.version) 8 9 (g.S.Source.left c.read_field.new.source) bytes c.version_fault.ensures (c.in_ok-version.ensures.next bytes version_wrong after_version stands) in
    let second = c.in_ok-judge.ensures.fine (after_version c.in_ok-version.version) (g.S.Source.left c.read_field.new.source) bytes judged in
    let third = judged_fine (never c.in_ok-epoch.epoch) (after_epoch c.in_ok-epoch.epoch) 9 13 (g.S.Source.left c.read_field-2.new.source) bytes refl (c.in_ok-epoch.ensures.next bytes never after_epoch second) in
    let p = err_from_is_err_and c.from_residual-in_err-dropped.result c.from_residual-in_err-dropped.ensures.1 in
    rw (p.1, p.2) (c.in_err-dropped.ensures.fault bytes dropped_wrong (after_dropped c.in_ok-epoch.epoch) third)

pub returns-in_err-judge-2-clause-fault : goal.returns-in_err-judge-2-clause-fault
returns-in_err-judge-2-clause-fault g c = λ bytes stands.
    let judged = judged_as (version_wrong c.in_ok-version.version) c.version_fault.result (after_version c.in_ok-version.version) 8 9 (g.S.Source.left c.read_field.new.source) bytes c.version_fault.ensures (c.in_ok-version.ensures.next bytes version_wrong after_version stands) in
    let second = c.in_ok-judge.ensures.fine (after_version c.in_ok-version.version) (g.S.Source.left c.read_field.new.source) bytes judged in
    let third = judged_fine (never c.in_ok-epoch.epoch) (after_epoch c.in_ok-epoch.epoch) 9 13 (g.S.Source.left c.read_field-2.new.source) bytes refl (c.in_ok-epoch.ensures.next bytes never after_epoch second) in
    let counted = judged_as (dropped_wrong c.in_ok-dropped.dropped) c.dropped_fault.result (after_dropped c.in_ok-epoch.epoch c.in_ok-dropped.dropped) 13 17 (g.S.Source.left c.read_field-3.new.source) bytes (c.dropped_fault.ensures ∙ ap (λ n. unless (not (nat_lt MAX_RECORDS n)) Count) c.from_be_bytes-dropped.ensures) (c.in_ok-dropped.ensures.next bytes dropped_wrong (after_dropped c.in_ok-epoch.epoch) third) in
    let p = err_from_is_err_and c.from_residual-in_err-judge-2.result c.from_residual-in_err-judge-2.ensures.1 in
    rw (p.1, p.2) (c.in_err-judge-2.ensures.fault (after_dropped c.in_ok-epoch.epoch c.in_ok-dropped.dropped) (g.S.Source.left c.read_field-3.new.source) bytes counted)

pub returns-in_err-number-clause-fault : goal.returns-in_err-number-clause-fault
returns-in_err-number-clause-fault g c = λ bytes stands.
    let judged = judged_as (version_wrong c.in_ok-version.version) c.version_fault.result (after_version c.in_ok-version.version) 8 9 (g.S.Source.left c.read_field.new.source) bytes c.version_fault.ensures (c.in_ok-version.ensures.next bytes version_wrong after_version stands) in
    let second = c.in_ok-judge.ensures.fine (after_version c.in_ok-version.version) (g.S.Source.left c.read_field.new.source) bytes judged in
    let third = judged_fine (never c.in_ok-epoch.epoch) (after_epoch c.in_ok-epoch.epoch) 9 13 (g.S.Source.left c.read_field-2.new.source) bytes refl (c.in_ok-epoch.ensures.next bytes never after_epoch second) in
    let counted = judged_as (dropped_wrong c.in_ok-dropped.dropped) c.dropped_fault.result (after_dropped c.in_ok-epoch.epoch c.in_ok-dropped.dropped) 13 17 (g.S.Source.left c.read_field-3.new.source) bytes (c.dropped_fault.ensures ∙ ap (λ n. unless (not (nat_lt MAX_RECORDS n)) Count) c.from_be_bytes-dropped.ensures) (c.in_ok-dropped.ensures.next bytes dropped_wrong (after_dropped c.in_ok-epoch.epoch) third) in
    let fourth = c.in_ok-judge-2.ensures.fine (after_dropped c.in_ok-epoch.epoch c.in_ok-dropped.dropped) (g.S.Source.left c.read_field-3.new.source) bytes counted in
    let p = err_from_is_err_and c.from_residual-in_err-number.result c.from_residual-in_err-number.ensures.1 in
    rw (p.1, p.2) (c.in_err-number.ensures.fault bytes never (after_number c.in_ok-epoch.epoch c.in_ok-dropped.dropped) fourth)

pub returns-clause-next : goal.returns-clause-next
returns-clause-next g c = λ bytes stands.
    let judged = judged_as (version_wrong c.in_ok-version.version) c.version_fault.result (after_version c.in_ok-version.version) 8 9 (g.S.Source.left c.read_field.new.source) bytes c.version_fault.ensures (c.in_ok-version.ensures.next bytes version_wrong after_version stands) in
    let second = c.in_ok-judge.ensures.fine (after_version c.in_ok-version.version) (g.S.Source.left c.read_field.new.source) bytes judged in
    let third = judged_fine (never c.in_ok-epoch.epoch) (after_epoch c.in_ok-epoch.epoch) 9 13 (g.S.Source.left c.read_field-2.new.source) bytes refl (c.in_ok-epoch.ensures.next bytes never after_epoch second) in
    let counted = judged_as (dropped_wrong c.in_ok-dropped.dropped) c.dropped_fault.result (after_dropped c.in_ok-epoch.epoch c.in_ok-dropped.dropped) 13 17 (g.S.Source.left c.read_field-3.new.source) bytes (c.dropped_fault.ensures ∙ ap (λ n. unless (not (nat_lt MAX_RECORDS n)) Count) c.from_be_bytes-dropped.ensures) (c.in_ok-dropped.ensures.next bytes dropped_wrong (after_dropped c.in_ok-epoch.epoch) third) in
    let fourth = c.in_ok-judge-2.ensures.fine (after_dropped c.in_ok-epoch.epoch c.in_ok-dropped.dropped) (g.S.Source.left c.read_field-3.new.source) bytes counted in
    let fifth = judged_fine (never c.in_ok-number.number) (after_number c.in_ok-epoch.epoch c.in_ok-dropped.dropped c.in_ok-number.number) 17 21 (g.S.Source.left c.read_field-4.new.source) bytes refl (c.in_ok-number.ensures.next bytes never (after_number c.in_ok-epoch.epoch c.in_ok-dropped.dropped) fourth) in
    let book = c.of_dropped.ensures ∙ (λ i. record { epoch = c.from_be_bytes-epoch.ensures i; dropped = c.from_be_bytes-dropped.ensures i; entries = [] }) in
    subst (λ n. Stands (entries_format n c.of_dropped.result) HEADER_BYTES (g.S.Source.left c.read_field-4.new.source) bytes) (sym c.from_be_bytes-number.ensures)
    (subst (λ b. Stands (entries_format (from_be_bytes w32 c.in_ok-number.number) b) HEADER_BYTES (g.S.Source.left c.read_field-4.new.source) bytes) (sym book) fifth)
