use Rattle.std.proofs.Common.{◌-◌, List, ℕ, length, take, subst, arith, rules}
use Rattle.std.specs.Io.KnownBytes.{Consumes}
use Rattle.star_io.proofs.KnownBytes.{consumes_more, take_written}
use Rattle.star_io.proofs.filling.fill.Goals as goal

pub loop-filled-preserved : goal.loop-filled-preserved
loop-filled-preserved g c =
    let a = c.loop-filled.filled in
    let n = c.in_ok-count.count in
    let e = take_written a (length c.loop-filled.into - a) n c.loop-filled.into c.take.new.into c.in_ok-count.ensures.bound.0 (omega arith) in
    record {
      bound = search rules;
      bytes = subst (λ (l : List ℕ). Consumes (g.S.Source.left c.args.source.now) (g.S.Source.left c.take.new.self) l) e
          (consumes_more _ (g.S.Source.left c.loop-filled.source) _ (take a c.loop-filled.into) (take n c.take.new.into) c.loop-filled.invariant.bytes c.in_ok-count.ensures.bytes.0);
      faults = omega arith;
    }
