use Rattle.std.proofs.Common.{◌≡◌, [], ◌∷◌, sym, ap, ◌∙◌, subst, OnOk}
use Rattle.std.specs.Prelude.{None, Some}
use Rattle.book_file.specs.Book.{Book}
use Rattle.book_file.specs.BookOf.{book_of, one_book, sum_of, taken_body}
use Rattle.book_file.proofs.Books.{book_of_one}
use Rattle.book_file.proofs.BookLaws.{book_sum}
use Rattle.book_file.proofs.book.RowBook.add.Goals as goal

pub returns-in-Some-clause-added : goal.returns-in-Some-clause-added
returns-in-Some-clause-added c =
    let taken : taken_body c.args.self.now.epoch c.args.item.now ≡ Some c.in-Some.frame.now = ap (λ (b : Book). taken_body b.epoch c.args.item.now) (sym c.self.view_is) ∙ sym c.in-Some.ensures in
    subst (λ b. OnOk c.count_frame.result (c.count_frame.new.self ≡ sum_of c.args.self.now b)) (sym (book_of_one c.args.self.now.epoch c.args.item.now ∙ ap (one_book c.args.self.now.epoch) taken)) c.count_frame.ensures.added

pub returns-in-Some-clause-more : goal.returns-in-Some-clause-more
returns-in-Some-clause-more c = λ records is.
    subst (λ b. OnOk c.count_frame.result (c.count_frame.new.self ≡ b)) (ap (λ b. sum_of b (book_of c.args.self.now.epoch (c.args.item.now ∷ []))) is ∙ book_sum c.args.self.now.epoch records (c.args.item.now ∷ [])) (returns-in-Some-clause-added c)

pub returns-in-None-clause-added : goal.returns-in-None-clause-added
returns-in-None-clause-added c =
    let taken : taken_body c.args.self.now.epoch c.args.item.now ≡ None = ap (λ (b : Book). taken_body b.epoch c.args.item.now) (sym c.self.view_is) ∙ sym c.in-None.ensures in
    c.drop_record.ensures.added ∙ ap (sum_of c.args.self.now) (sym (book_of_one c.args.self.now.epoch c.args.item.now ∙ ap (one_book c.args.self.now.epoch) taken))

pub returns-in-None-clause-more : goal.returns-in-None-clause-more
returns-in-None-clause-more c = λ records is.
    returns-in-None-clause-added c ∙ ap (λ b. sum_of b (book_of c.args.self.now.epoch (c.args.item.now ∷ []))) is ∙ book_sum c.args.self.now.epoch records (c.args.item.now ∷ [])
