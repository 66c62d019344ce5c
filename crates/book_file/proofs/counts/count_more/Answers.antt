use Rattle.std.proofs.Common.{◌≡◌, ◌+◌, [], ◌∷◌, ap, ◌∙◌, sum}
use Rattle.std.specs.Prelude.{unwrap_or}
use Rattle.std.specs.Map.{values_of}
use Rattle.book_file.specs.Book.{count_in}
use Rattle.book_file.specs.BookOf.{entries_sum}
use Rattle.book_file.proofs.Sums.{is_more, total_more}
use Rattle.book_file.proofs.counts.count_more.Goals as goal

pub returns-clause-counted : goal.returns-clause-counted
returns-clause-counted c =
    let frame : c.in_ok-frame.frame ≡ c.args.frame.now = c.in_ok-frame.ensures in
    let before : c.unwrap_or-before.result ≡ count_in c.args.entries.now.entries c.in_ok-frame.frame =
    c.unwrap_or-before.ensures ∙ ap (λ o. unwrap_or o 0) (c.copied.ensures ∙ c.get.ensures.value) in
    is_more c.args.entries.now.entries c.insert.new.self.entries c.in_ok-frame.frame c.args.count (c.unwrap_or-before.result + c.args.count) c.in_ok-insert.ensures.ordered (ap (λ n. n + c.args.count) before) c.in_ok-insert.ensures.updates.0
    ∙ ap (λ f. entries_sum c.args.entries.now.entries ((f, c.args.count) ∷ [])) frame

pub returns-clause-total : goal.returns-clause-total
returns-clause-total c =
    let before : c.unwrap_or-before.result ≡ count_in c.args.entries.now.entries c.in_ok-frame.frame =
    c.unwrap_or-before.ensures ∙ ap (λ o. unwrap_or o 0) (c.copied.ensures ∙ c.get.ensures.value) in
    ap (λ es. sum (values_of es)) c.in_ok-insert.ensures.entries ∙ total_more c.args.entries.now.entries c.in_ok-frame.frame c.args.count (c.unwrap_or-before.result + c.args.count) c.in_ok-insert.ensures.was_ordered (ap (λ n. n + c.args.count) before)
