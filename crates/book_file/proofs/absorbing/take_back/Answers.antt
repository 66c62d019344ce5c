use Rattle.std.proofs.Common.{◌-◌, ◌≤◌, ◌∷◌, sym, ap, ◌∙◌, subst, take, drop}
use Rattle.std.specs.Map.{keys_of, values_of}
use Rattle.std.specs.Map.Iter.{deref_pair}
use Rattle.std.proofs.lemmas.Map.Iter.{rest_more, rest_all}
use Rattle.std.proofs.lemmas.Map.Keys.{sorted_tail}
use Rattle.std.proofs.lemmas.List.{take-append-drop}
use Rattle.std.proofs.lemmas.List.Elements.{All-tail}
use Rattle.book_file.specs.Book.{by_bytes}
use Rattle.book_file.specs.BookOf.{entries_sum}
use Rattle.book_file.proofs.Entries.{Rises}
use Rattle.book_file.proofs.Sums.{Counts, sum_nil, sum_fewer, rises_sum, Counts-sum, rises_front, counts_front, take_first, take_none}
use Rattle.book_file.proofs.absorbing.take_back.Goals as goal

pub returns-then-left-eq0 : goal.returns-then-left-eq0
returns-then-left-eq0 c = λ before rises counts is.
    c.loop-frame.invariant.back before rises counts is
    ∙ ap (λ n. entries_sum before (take n c.loop-frame.frame-iterator)) c.if-left-eq0.true
    ∙ sum_nil before rises

pub loop-frame-preserved : goal.loop-frame-preserved
loop-frame-preserved c =
    let more = rest_more deref_pair c.loop-frame.frame-iterator c.next.new.self c.next.result (c.in-Some.frame, c.in-Some.count) c.in-Some.is c.next.ensures.steps in
    let left = c.next.new.self in
    let first = take (c.loop-frame.left - 1) left in
    let split = ap (λ es. (c.in-Some.frame.now, c.in-Some.count.now) ∷ es) (sym (take-append-drop (c.loop-frame.left - 1) left)) in
    let up = subst Rises more c.loop-frame.invariant.rises in
    let some = All-tail (λ n. 1 ≤ n) c.in-Some.count.now (values_of left) (subst Counts more c.loop-frame.invariant.counts) in
    record {
      can_next = tt;
      is_finite = tt;
      rises = sorted_tail by_bytes c.in-Some.frame.now (keys_of left) up;
      counts = some;
      back = λ before rises counts is.
          c.count_fewer.ensures (entries_sum before first) (rises_sum before first)
          (Counts-sum before first counts (counts_front first (drop (c.loop-frame.left - 1) left) (subst Counts (sym (take-append-drop (c.loop-frame.left - 1) left)) some)))
          (c.loop-frame.invariant.back before rises counts is
          ∙ ap (λ es. entries_sum before (take c.loop-frame.left es)) more
          ∙ ap (entries_sum before) (take_first c.loop-frame.left (c.in-Some.frame.now, c.in-Some.count.now) left c.if-left-eq0.false)
          ∙ sum_fewer before first c.in-Some.frame.now c.in-Some.count.now (rises_front ((c.in-Some.frame.now, c.in-Some.count.now) ∷ first) (drop (c.loop-frame.left - 1) left) (subst Rises split up)));
    }

pub returns : goal.returns
returns c = λ before rises counts is.
    c.loop-frame.invariant.back before rises counts is
    ∙ ap (λ es. entries_sum before (take c.loop-frame.left es)) (rest_all deref_pair c.loop-frame.frame-iterator c.next.new.self c.next.result c.in-None.is c.next.ensures.steps)
    ∙ ap (entries_sum before) (take_none c.loop-frame.left)
    ∙ sum_nil before rises
