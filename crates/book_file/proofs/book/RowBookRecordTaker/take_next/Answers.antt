use Rattle.std.proofs.Common.{◌≡◌, ◌∙◌, ◌++◌, ◌∷◌, [], ℕ, List, Result, Ok, Err, OnOk, refl, sym, ap, subst}
use Rattle.star_io.specs.declared.record.Record.{Record}
use Rattle.book_file.specs.Book.{Book}
use Rattle.book_file.specs.BookOf.{book_of}
use Rattle.book_file.proofs.book.RowBookRecordTaker.take_next.Goals as goal

epoch_of_book : (e : ℕ) (records : List Record) → (book_of e records).epoch ≡ e
unfolding book_of
epoch_of_book e records = refl

-- a book of records of an epoch is of that epoch
one_more : {T E : Type 0} (result : Result T E) (now new : Book) (r : Record)
    → ((records : List Record) → now ≡ book_of now.epoch records → OnOk result (new ≡ book_of now.epoch (records ++ r ∷ [])))
    → OnOk result ((e : ℕ) (records : List Record) → now ≡ book_of e records → new ≡ book_of e (records ++ r ∷ []))
one_more (Ok done) now new r more = λ e records is.
    let epoch : now.epoch ≡ e = ap (λ (b : Book). b.epoch) is ∙ epoch_of_book e records in
    subst (λ (n : ℕ). new ≡ book_of n (records ++ r ∷ [])) epoch (more records (is ∙ ap (λ (n : ℕ). book_of n records) (sym epoch)))
one_more (Err error) now new r more = tt

pub returns-clause-stands : goal.returns-clause-stands
returns-clause-stands c = one_more c.add.result c.args.self.now c.add.new.self c.args.item c.add.ensures.more
