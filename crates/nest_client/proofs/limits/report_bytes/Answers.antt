use Rattle.std.proofs.Common.{List, ℕ, length, ap, arith}
use Rattle.nest_client.proofs.Around.{one_layer_more}
use Rattle.nest_client.proofs.limits.report_bytes.Goals as goal

pub layers-preserved : goal.layers-preserved
layers-preserved c =
    let value : List ℕ = c.index-values-i.result in
    let more = one_layer_more c.args.values.now c.layers.i value (omega arith) in
    let same = ap (λ (v : List ℕ). length v) c.index-values-i.is in
    record {
      bytes = omega (arith, c.layers.invariant.bytes, c.layer_bytes-bytes.ensures.bytes, more, same);
      most = omega (arith, c.layers.invariant.most, c.layer_bytes-bytes.ensures.most);
    }
