use Rattle.std.proofs.Common.{◌∙◌, ◌*◌, arith}
use Rattle.nest_client.specs.declared.reporter.Reporter.{Reporter}
use Rattle.nest_client.specs.Report.{coins, client_nonce}
use Rattle.nest_client.proofs.Layers.{part-of_keystream}
use Rattle.nest_client.proofs.reporter.Reporter.coins_of.Goals as goal

pub returns : goal.returns
unfolding coins
returns c =
    let r : Reporter = c.args.self.now in
    c.copy_from_slice.ensures.after
    ∙ part-of_keystream r.client.seed (client_nonce r.client.number) (20 * r.layers) (20 * c.args.level) 20 r.coins (omega arith) r.drawn
