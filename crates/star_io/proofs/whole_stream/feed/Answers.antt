use Rattle.std.proofs.Common.{◌≡◌, ℕ, List, None, Some, Ok, ap, subst, arith, rules}
use Rattle.star_io.specs.declared.record.Record.{Record}
use Rattle.star_io.specs.declared.reader.ReaderState.TheVariants.{Ended}
use Rattle.star_io.proofs.Streams.{HasFed, TakesAll, turn, last_turn, too_many, all_fed, all_at_end, takes_more}
use Rattle.star_io.proofs.whole_stream.feed.Given.{Over}
use Rattle.star_io.proofs.whole_stream.feed.Goals as goal
use Rattle.star_io.proofs.whole_stream.feed.Goals.{then-eq-via-then-eq, then-eq-via-else-eq+in_ok-is_at_end+then-branch}

-- what the taker took so far
abbrev taken_so_far : (g : Over) → (taker now : g.row.T.Denot) → List Record → Type 0
taken_so_far g taker now = TakesAll (g.T.RecordTaker.stands taker) (g.T.RecordTaker.stands now)

pub loop-preserved : goal.loop-preserved
loop-preserved g c =
    let found = c.in-Some.found in
    let is_found : c.next.result ≡ Ok (Some found) = cc in
    let stands = g.T.RecordTaker.stands in
    let takes = takes_more (stands c.args.taker.now) (stands c.loop.taker) (stands c.take_next.new.self) found
    c.in_ok-take_next-in-Some.ensures.stands in
    let next = turn (taken_so_far g c.args.taker.now c.loop.taker) (taken_so_far g c.args.taker.now c.take_next.new.self) c.loop.counter
    c.loop.reader c.next.new.self c.next.result found _ (g.S.Source.left c.loop.input) (g.S.Source.left c.next.new.source)
    c.loop.invariant.sound (λ ended. (c.next.ensures.ended ended).0) c.next.ensures.next c.next.ensures.state
    is_found takes c.loop.invariant.fed in
    record {
      sound = next.1;
      count = omega (arith, c.in_ok-take_next-in-Some.ensures.taken, c.loop.invariant.count);
      fed = next.0;
      faults = omega (arith, c.next.ensures.later, c.loop.invariant.faults);
    }

pub returns-in-None-clause-records : goal.returns-in-None-clause-records
returns-in-None-clause-records g c =
    let is_none : c.next.result ≡ Ok None = cc in
    last_turn (taken_so_far g c.args.taker.now c.loop.taker) c.args.limit c.loop.counter c.loop.reader c.next.result _
    (g.S.Source.left c.loop.input) (g.S.Source.left c.next.new.source) (omega arith) c.loop.invariant.sound
    (λ ended. ap (λ (s : g.row.S.Denot). g.S.Source.left s) (c.next.ensures.ended ended).2) c.next.ensures.next is_none c.loop.invariant.fed

pub returns-then-eq-clause-records : goal.returns-then-eq-clause-records
returns-then-eq-clause-records g c =
    let taken = taken_so_far g c.args.taker.now c.loop.taker in
    elim c.then-eq.branch [
      | then-eq-via-then-eq w ↦
          let ended : c.loop.reader ≡ Ended = search rules in
          rw w.input-is (all_at_end taken c.args.limit c.loop.counter c.loop.reader _ (g.S.Source.left c.loop.input) (omega arith) ended
          c.loop.invariant.fed)
      | then-eq-via-else-eq+in_ok-is_at_end+then-branch w ↦
          rw w.input-is (all_fed taken c.args.limit c.loop.counter c.loop.reader _ (g.S.Source.left c.loop.input)
          (g.S.Source.left w.is_at_end.new.input) (omega arith) c.loop.invariant.fed (w.in_ok-is_at_end.ensures.end w.if-branch.true))
    ]

pub returns-clause-too_many : goal.returns-clause-too_many
returns-clause-too_many g c = λ _.
    let taken = taken_so_far g c.args.taker.now c.loop.taker in
    let all : c.loop.counter ≡ c.args.limit = omega arith in
    let fed = subst (λ (n : ℕ). HasFed taken n c.loop.reader (g.S.Source.left c.args.input.now) (g.S.Source.left c.loop.input)) all
    c.loop.invariant.fed in
    too_many taken c.args.limit c.loop.reader _ (g.S.Source.left c.loop.input) (g.S.Source.left c.is_at_end.new.input) fed
    (c.in_ok-is_at_end.ensures.more c.if-branch.false)
