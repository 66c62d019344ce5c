use Rattle.std.proofs.Common.{◌∙◌, ℕ, List, replicate, ap₂, subst}
use Rattle.report_frame.specs.Frame.{Fields, IsFrame}
use Rattle.nest_client.specs.declared.client.Client.{Client}
use Rattle.nest_client.specs.Report.{report_from}
use Rattle.nest_client.proofs.reports.write_shifted.Goals as goal

pub returns : goal.returns
returns c =
    let same =
    ap₂ (λ (client : Client) (extra : List ℕ). report_from client extra 0 (replicate 32 0) c.args.shift c.args.values.now c.args.thresholds.now)
    c.of-reporter.ensures.client (c.of-reporter.ensures.extra ∙ c.copy.ensures) in
    subst (λ (r : Fields). IsFrame r c.write_frame.new.frame) same c.write_frame.ensures
