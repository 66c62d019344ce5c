use Rattle.std.proofs.Common.{◌≡◌, ◌+◌, ◌≤◌, [], ◌∷◌, ◌++◌, true, sym, ap, ◌∙◌, subst, arith}
use Rattle.star_io.specs.declared.record.TheConstants.{MAX_RECORDS}
use Rattle.book_file.specs.Book.{Book, IsBookOf, total_of, is_outer_frame}
use Rattle.book_file.specs.Format.{is_above, last_of, with_entry}
use Rattle.book_file.proofs.Books.{put_last, pushed_book}
use Rattle.book_file.proofs.book.RowBook.push.Goals as goal

pub invariant_of-self-2 : goal.invariant_of-self-2
invariant_of-self-2 c =
    let good : is_outer_frame c.self.inside.epoch c.args.frame ≡ true = subst (λ (b : Book). is_outer_frame b.epoch c.args.frame ≡ true) (sym c.self.view_is) c.requires.frame in
    let above : is_above (last_of c.self.inside.entries.entries) c.args.frame ≡ true = subst (λ (b : Book). is_above (last_of b.entries) c.args.frame ≡ true) (sym c.self.view_is) c.requires.above in
    let total = subst (λ (b : Book). total_of b + c.args.count ≤ MAX_RECORDS) (sym c.self.view_is) c.requires.few in
    let few : c.self.inside.total + c.args.count ≤ MAX_RECORDS = omega (arith, total, c.self.invariant.total_is) in
    let put : c.insert.new.self.entries ≡ c.self.inside.entries.entries ++ (c.args.frame, c.args.count) ∷ [] =
    put_last c.self.inside.entries.entries c.insert.new.self.entries c.args.frame c.args.count c.self.invariant.is_book.ascending above c.in_ok-insert.ensures.ordered c.in_ok-insert.ensures.updates.0 in
    subst (IsBookOf c.self.inside.epoch c.self.inside.dropped (c.self.inside.total + c.args.count)) (sym put)
    (pushed_book c.self.inside.epoch c.self.inside.dropped c.self.inside.total c.args.count c.args.frame c.self.inside.entries.entries c.self.invariant good above c.requires.some few)

pub returns-clause-pushed : goal.returns-clause-pushed
returns-clause-pushed c =
    let above : is_above (last_of c.self.inside.entries.entries) c.args.frame ≡ true = subst (λ (b : Book). is_above (last_of b.entries) c.args.frame ≡ true) (sym c.self.view_is) c.requires.above in
    let put : c.insert.new.self.entries ≡ c.self.inside.entries.entries ++ (c.args.frame, c.args.count) ∷ [] =
    put_last c.self.inside.entries.entries c.insert.new.self.entries c.args.frame c.args.count c.self.invariant.is_book.ascending above c.in_ok-insert.ensures.ordered c.in_ok-insert.ensures.updates.0 in
    (λ i. record { epoch = c.self.inside.epoch; dropped = c.self.inside.dropped; entries = put i })
    ∙ ap (λ (b : Book). with_entry b c.args.frame c.args.count) c.self.view_is
