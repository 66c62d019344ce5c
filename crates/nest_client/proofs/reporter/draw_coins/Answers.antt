use Rattle.std.proofs.Common.{◌∙◌, ◌*◌, ℕ, List, refl, ap, arith}
use Rattle.chacha_stream.specs.Keystream.{keystream}
use Rattle.adss_commit.proofs.Keystreams.{front_drawn}
use Rattle.nest_client.proofs.reporter.draw_coins.Goals as goal

pub returns : goal.returns
returns c =
    let n : ℕ = 20 * c.args.layers in
    let seed : List ℕ = c.args.client.now.seed in
    front_drawn seed c.client_nonce-nonce.result 0 n 320 _ c.xor_stream.new.bytes (omega arith) refl c.xor_stream.ensures
    ∙ ap (λ (nonce : List ℕ). keystream seed nonce 0 0 n) c.client_nonce-nonce.ensures
