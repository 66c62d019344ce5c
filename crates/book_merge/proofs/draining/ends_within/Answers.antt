use Rattle.std.proofs.Common.{◌≡◌, ◌+◌, ◌≤◌, ◌++◌, ℕ, length, take, arith, rules, length-append}
use Rattle.std.proofs.KnownBytes.{Consumes-trans}
use Rattle.std.proofs.lemmas.List.{length-take, length-take-le}
use Rattle.book_merge.proofs.Dropped.{ended, went_on}
use Rattle.book_merge.proofs.draining.ends_within.Goals as goal

pub loop-dropped-preserved : goal.loop-dropped-preserved
loop-dropped-preserved g c =
    let b = c.loop-dropped.invariant.taken in
    let n = c.in_ok-count.count in
    let into = c.fill.new.into in
    let long : length (take n into) ≡ n = length-take-le n into c.in_ok-count.ensures.bound.0 in
    record {
      most = first_of (omega arith, search rules);
      taken = (b.0 ++ take n into, omega (arith, length-append b.0 (take n into), b.1, long), Consumes-trans _ (g.S.Source.left c.loop-dropped.input) _ b.0 (take n into) b.2 c.in_ok-count.ensures.bytes);
      faults = omega arith;
    }

pub returns-then-count-most-clause-end : goal.returns-then-count-most-clause-end
returns-then-count-most-clause-end g c = λ _.
    let b = c.loop-dropped.invariant.taken in
    let n = c.in_ok-count.count in
    let into = c.fill.new.into in
    let long : length (take n into) ≡ n = length-take-le n into c.in_ok-count.ensures.bound.0 in
    let few : c.loop-dropped.dropped + n ≤ c.args.room = first_of (search rules, omega (arith, length-take {A = ℕ})) in
    ended _ (g.S.Source.left c.fill.new.source) (b.0 ++ take n into) c.args.room
    (Consumes-trans _ (g.S.Source.left c.loop-dropped.input) _ b.0 (take n into) b.2 c.in_ok-count.ensures.bytes)
    (c.in_ok-count.ensures.short (omega arith)) (omega (arith, length-append b.0 (take n into), b.1, long, few))

pub returns-clause-more : goal.returns-clause-more
returns-clause-more g c = λ _.
    let b = c.loop-dropped.invariant.taken in
    went_on _ (g.S.Source.left c.loop-dropped.input) b.0 c.args.room b.2 (omega (arith, b.1))
