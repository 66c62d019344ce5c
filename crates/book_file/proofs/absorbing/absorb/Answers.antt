use Rattle.std.proofs.Common.{◌≡◌, ◌+◌, ◌≤◌, sym, ap, ◌∙◌, subst, arith}
use Rattle.star_io.specs.declared.record.TheConstants.{MAX_RECORDS}
use Rattle.book_file.specs.Book.{Book, IsBookOf, total_of}
use Rattle.book_file.specs.BookOf.{sum_of}
use Rattle.book_file.proofs.Books.{is_sum_book}
use Rattle.book_file.proofs.absorbing.absorb.Goals as goal

pub invariant_of-into-2 : goal.invariant_of-into-2
invariant_of-into-2 c =
    let same : c.other.inside.epoch ≡ c.into.inside.epoch = ap (λ (b : Book). b.epoch) c.other.view_is ∙ sym c.requires.epoch ∙ sym (ap (λ (b : Book). b.epoch) c.into.view_is) in
    let other = subst (λ e. IsBookOf e c.other.inside.dropped c.other.inside.total c.other.inside.entries.entries) same c.other.invariant in
    let totals = subst (λ b. total_of b + total_of c.args.other.now ≤ MAX_RECORDS) (sym c.into.view_is) c.requires.few in
    let both = subst (λ b. total_of (record { epoch = c.into.inside.epoch; dropped = c.into.inside.dropped; entries = c.into.inside.entries.entries }) + total_of b ≤ MAX_RECORDS) (sym c.other.view_is) totals in
    let few : c.into.inside.total + c.other.inside.total ≤ MAX_RECORDS = omega (arith, both, c.into.invariant.total_is, c.other.invariant.total_is) in
    is_sum_book c.into.inside.epoch c.into.inside.dropped c.into.inside.total c.other.inside.dropped c.other.inside.total c.into.inside.entries.entries c.other.inside.entries.entries c.add_all.new.into.entries c.into.invariant other c.in_ok-add_all.ensures.sum c.in_ok-add_all.ensures.total few

pub returns-clause-sum : goal.returns-clause-sum
unfolding sum_of
returns-clause-sum c =
    (λ i. record { epoch = c.into.inside.epoch; dropped = c.into.inside.dropped + c.other.inside.dropped; entries = c.in_ok-add_all.ensures.sum i })
    ∙ (λ i. sum_of (c.into.view_is i) (c.other.view_is i))
