use Rattle.std.proofs.Common.{◌≡◌, ◌+◌, ◌-◌, refl, sym, ap, ◌∙◌, true, false, cond, None, Some, eq-eqb, eqb-true}
use Rattle.std.specs.Prelude.{unwrap_or, is_some, ◌==◌}
use Rattle.std.specs.Option.{option_copied_mut}
use Rattle.std.proofs.lemmas.Option.{none-some}
use Rattle.std.specs.BTreeMap.{is_at}
use Rattle.book_file.specs.Book.{by_bytes, count_in}
use Rattle.book_file.proofs.Entries.{found}
use Rattle.book_file.proofs.Sums.{is_less, left_of, one_found}
use Rattle.book_file.proofs.counts.count_fewer.Goals as goal

pub returns-then-have-count : goal.returns-then-have-count
returns-then-have-count c = λ before rises counts is.
    let have : c.unwrap_or-have.result ≡ count_in c.args.entries.now.entries c.args.frame.now =
    c.unwrap_or-have.ensures ∙ ap (λ o. unwrap_or o 0) (c.copied.ensures ∙ c.get.ensures.value) in
    let none : left_of (count_in c.args.entries.now.entries c.args.frame.now) c.args.count ≡ None =
    ap (λ b. cond b None (Some (count_in c.args.entries.now.entries c.args.frame.now - c.args.count))) (eq-eqb (count_in c.args.entries.now.entries c.args.frame.now) c.args.count (sym have ∙ c.if-have-count.true)) in
    is_less before c.args.entries.now.entries c.remove.new.self.entries c.args.frame.now c.args.count rises counts c.remove.ensures.ordered is (λ q.
    c.remove.ensures.updates.0 q ∙ ap (λ o. cond (is_at (by_bytes c.args.frame.now) q) o (found q c.args.entries.now.entries)) (sym none))

pub returns-in-Some : goal.returns-in-Some
returns-in-Some c = λ before rises counts is.
    let have : c.unwrap_or-have.result ≡ count_in c.args.entries.now.entries c.args.frame.now =
    c.unwrap_or-have.ensures ∙ ap (λ o. unwrap_or o 0) (c.copied.ensures ∙ c.get.ensures.value) in
    let less : c.saturating_sub.result ≡ count_in c.args.entries.now.entries c.args.frame.now - c.args.count = c.saturating_sub.ensures ∙ ap (λ n. n - c.args.count) have in
    let left : left_of (count_in c.args.entries.now.entries c.args.frame.now) c.args.count ≡ Some c.saturating_sub.result =
    elim (count_in c.args.entries.now.entries c.args.frame.now == c.args.count) as (λ b. (count_in c.args.entries.now.entries c.args.frame.now == c.args.count) ≡ b → cond b None (Some (count_in c.args.entries.now.entries c.args.frame.now - c.args.count)) ≡ Some c.saturating_sub.result) [
      | true ↦ λ e. absurd (c.if-have-count.false (have ∙ eqb-true (count_in c.args.entries.now.entries c.args.frame.now) c.args.count e))
      | false ↦ λ e. ap (λ n. Some n) (sym less)
    ] refl in
    let holds = c.get_mut.follows.holds c.saturating_sub.result in
    is_less before c.args.entries.now.entries (c.get_mut.follows.lender c.saturating_sub.result).entries c.args.frame.now c.args.count rises counts holds.4 is (λ q.
    (holds.3 (ap is_some (sym c.in-Some.ensures.value))).0 q ∙ ap (λ o. cond (is_at (by_bytes c.args.frame.now) q) o (found q c.args.entries.now.entries)) (sym left))

pub returns-in_default : goal.returns-in_default
returns-in_default c = λ before rises counts is.
    absurd (none-some (count_in before c.args.frame.now + c.args.count) (sym (ap option_copied_mut c.in_default.is) ∙ c.get_mut.ensures.value ∙ one_found before c.args.entries.now.entries c.args.frame.now c.args.count is))
