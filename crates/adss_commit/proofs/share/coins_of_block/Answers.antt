use Rattle.std.proofs.Common.{◌≡◌, ◌∙◌, ◌*◌, ◌+◌, ℕ, List, refl, ap, arith}
use Rattle.chacha_stream.specs.Keystream.{keystream}
use Rattle.chacha_stream.proofs.StreamLaws.{later_block}
use Rattle.adss_commit.specs.Derivation.{zero_nonce}
use Rattle.adss_commit.proofs.Keystreams.{front_drawn}
use Rattle.adss_commit.proofs.share.coins_of_block.Goals as goal

pub returns : goal.returns
returns c =
    let key : List ℕ = c.args.key.now in
    let n : ℕ = 24 * c.args.count in
    let counter : ℕ = 24 * c.args.block in
    let from : 64 * counter + 0 ≡ 1536 * c.args.block = omega arith in
    let zero : counter ≡ 0 + counter = omega arith in
    front_drawn key zero_nonce counter n 1536 _ c.xor_stream.new.bytes (omega arith) refl c.xor_stream.ensures
    ∙ ap (λ (m : ℕ). keystream key zero_nonce m 0 n) zero
    ∙ later_block key zero_nonce 0 counter 0 n
    ∙ ap (λ (s : ℕ). keystream key zero_nonce 0 s n) from
