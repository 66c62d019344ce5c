use Rattle.std.proofs.Common.{◌≡◌, ◌+◌, ◌<◌, ◌≤◌, [], ◌∷◌, true, sym, ap, ◌∙◌, subst, arith, sum}
use Rattle.std.specs.Prelude.{Some}
use Rattle.std.specs.Map.{values_of}
use Rattle.star_io.specs.declared.record.TheConstants.{MAX_RECORDS}
use Rattle.book_file.specs.Book.{Book, IsBookOf, total_of, is_outer_frame}
use Rattle.book_file.specs.BookOf.{one_book, sum_of}
use Rattle.book_file.proofs.Books.{is_sum_book, frame_book}
use Rattle.book_file.proofs.book.RowBook.count_frame.Goals as goal

pub invariant_of-self-2 : goal.invariant_of-self-2
invariant_of-self-2 c =
    let good : is_outer_frame c.self.inside.epoch c.args.frame.now ≡ true = subst (λ (b : Book). is_outer_frame b.epoch c.args.frame.now ≡ true) (sym c.self.view_is) c.requires.good in
    let total = subst (λ (b : Book). total_of b < MAX_RECORDS) (sym c.self.view_is) c.requires.few in
    let few : c.self.inside.total + 1 ≤ MAX_RECORDS = omega (arith, total, c.self.invariant.total_is) in
    let alone = frame_book c.self.inside.epoch 1 c.args.frame.now c.self.invariant.is_book.epoch good (omega arith) (omega arith) in
    let more : sum (values_of c.count_more.new.entries.entries) ≡ sum (values_of c.self.inside.entries.entries) + (0 + 1) = omega (arith, c.in_ok-count_more.ensures.total) in
    let same : c.self.inside.dropped + 0 ≡ c.self.inside.dropped = omega arith in
    subst (λ n. IsBookOf c.self.inside.epoch n (c.self.inside.total + 1) c.count_more.new.entries.entries) same
    (is_sum_book c.self.inside.epoch c.self.inside.dropped c.self.inside.total 0 1 c.self.inside.entries.entries ((c.args.frame.now, 1) ∷ []) c.count_more.new.entries.entries c.self.invariant alone c.in_ok-count_more.ensures.counted more few)

pub returns-clause-added : goal.returns-clause-added
unfolding sum_of
returns-clause-added c =
    let same : c.self.inside.dropped ≡ c.self.inside.dropped + 0 = omega arith in
    (λ i. record { epoch = c.self.inside.epoch; dropped = same i; entries = c.in_ok-count_more.ensures.counted i })
    ∙ ap (λ (b : Book). sum_of b (one_book b.epoch (Some c.args.frame.now))) c.self.view_is
