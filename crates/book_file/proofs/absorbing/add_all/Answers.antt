use Rattle.std.proofs.Common.{◌≡◌, ◌+◌, ◌++◌, [], ◌∷◌, refl, sym, ap, ◌∙◌, subst, map, arith, append_assoc, sum, length-append}
use Rattle.std.specs.Map.{values_of}
use Rattle.std.specs.Map.Iter.{deref_pair}
use Rattle.std.proofs.lemmas.Map.Iter.{rest_more}
use Rattle.std.proofs.lemmas.List.{map-append}
use Rattle.book_file.specs.BookOf.{entries_sum}
use Rattle.book_file.proofs.Entries.{Rises}
use Rattle.book_file.proofs.Sums.{sum_nil, sum_more, rises_front, taken_so_far, total_push}
use Rattle.book_file.proofs.absorbing.add_all.Goals as goal

pub loop-frame-init : goal.loop-frame-init
loop-frame-init c = record {
  can_next = tt;
  is_finite = tt;
  count = refl;
  whole = c.into_iter-frame-iterator.ensures.into_iter_gives ∙ c.iter-frame-items.ensures.rest;
  summed = sym (sum_nil c.args.into.now.entries c.requires.ascending);
  total = omega arith;
}

pub returns-in-Err-clause-kept : goal.returns-in-Err-clause-kept
returns-in-Err-clause-kept c =
    c.take_back.ensures c.args.into.now.entries c.requires.ascending c.requires.counts
    (c.in-Err.ensures.kept ∙ c.loop-frame.invariant.summed
    ∙ ap (entries_sum c.args.into.now.entries) (sym (taken_so_far deref_pair c.loop-frame.yielded c.loop-frame.frame-iterator c.args.other.now.entries c.loop-frame.done c.loop-frame.invariant.count c.loop-frame.invariant.whole)))

pub loop-frame-preserved : goal.loop-frame-preserved
loop-frame-preserved c =
    let more = rest_more deref_pair c.loop-frame.frame-iterator c.next.new.self c.next.result (c.in-Some.frame, c.in-Some.count) c.in-Some.is c.next.ensures.steps in
    let before = map deref_pair c.loop-frame.yielded in
    let now = map-append deref_pair c.loop-frame.yielded ((c.in-Some.frame, c.in-Some.count) ∷ []) in
    let apart : (before ++ (c.in-Some.frame.now, c.in-Some.count.now) ∷ []) ++ c.next.new.self ≡ c.args.other.now.entries =
    append_assoc before ((c.in-Some.frame.now, c.in-Some.count.now) ∷ []) c.next.new.self ∙ ap (λ es. before ++ es) (sym more) ∙ c.loop-frame.invariant.whole in
    let up : Rises (before ++ (c.in-Some.frame.now, c.in-Some.count.now) ∷ []) = rises_front (before ++ (c.in-Some.frame.now, c.in-Some.count.now) ∷ []) c.next.new.self (subst Rises (sym apart) c.iter-frame-items.ensures.ordered) in
    record {
      can_next = tt;
      is_finite = tt;
      count = omega (arith, c.loop-frame.invariant.count, length-append c.loop-frame.yielded ((c.in-Some.frame, c.in-Some.count) ∷ []));
      whole = ap (λ es. es ++ c.next.new.self) now ∙ apart;
      summed =
          c.in-Ok.ensures.counted
          ∙ (λ i. entries_sum (c.loop-frame.invariant.summed i) ((c.as_slice.ensures i, c.in-Some.count.now) ∷ []))
          ∙ sum_more c.args.into.now.entries before c.in-Some.frame.now c.in-Some.count.now up
          ∙ ap (entries_sum c.args.into.now.entries) (sym now);
      total =
          let part = c.in-Ok.ensures.total in
          let so_far = c.loop-frame.invariant.total in
          let last : sum (values_of (map deref_pair (c.loop-frame.yielded ++ (c.in-Some.frame, c.in-Some.count) ∷ []))) ≡ sum (values_of before) + c.in-Some.count.now = ap (λ es. sum (values_of es)) now ∙ total_push before (c.in-Some.frame.now, c.in-Some.count.now) in
          omega (arith, part, so_far, last);
    }
