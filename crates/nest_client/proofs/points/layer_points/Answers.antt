use Rattle.std.proofs.Common.{◌∙◌, ap, arith}
use Rattle.nest_client.specs.declared.client.Client.{Client}
use Rattle.nest_client.specs.Report.{coins, point_of}
use Rattle.nest_client.proofs.points.layer_points.Goals as goal

pub returns : goal.returns
unfolding coins
returns c = λ version epoch j lt.
    c.layers.invariant j (omega (arith, lt)) ∙ ap (λ (x : Client). point_of (coins x j)) c.of-reporter.ensures.client
