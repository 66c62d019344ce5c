use Rattle.std.proofs.Common.{arith}
use Rattle.reveal_report.proofs.Escapes.{percent_encode-escaped}
use Rattle.reveal_report.proofs.escape.push_escaped.Goals as goal

pub returns : goal.returns
returns c =
    let same = percent_encode-escaped c.args.bytes.now (λ i within. omega (arith, c.type_inv.bytes i)) in
    rw (← same, ← c.percent_encode.ensures.text) c.append_to.ensures.ok
