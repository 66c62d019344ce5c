use Rattle.std.proofs.Common.{◌≡◌, ◌++◌, length, take, arith, rules, length-append}
use Rattle.std.proofs.lemmas.List.{length-take-le}
use Rattle.star_io.proofs.KnownBytes.{consumes_more}
use Rattle.star_io.proofs.filling.skip.Goals as goal

pub loop-skipped-preserved : goal.loop-skipped-preserved
loop-skipped-preserved g c =
    let b = c.loop-skipped.invariant.bytes in
    let n = c.in_ok-got.got in
    let e : length (take n c.take.new.into) ≡ n = length-take-le n c.take.new.into c.in_ok-got.ensures.bound.0 in
    record {
      bound = search rules;
      bytes = (b.0 ++ take n c.take.new.into, omega (arith, length-append b.0 (take n c.take.new.into), b.1, e), consumes_more _ (g.S.Source.left c.loop-skipped.source) _ b.0 (take n c.take.new.into) b.2 c.in_ok-got.ensures.bytes.0);
      faults = omega arith;
    }
