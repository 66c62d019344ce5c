use Rattle.std.proofs.Common.{◌≡◌, ◌∙◌, ◌<◌, ℕ, ◌*◌, List, length, drop, replicate, ap, ap₂, arith}
use Rattle.byteorder.specs.Endian.{big_number}
use Rattle.chacha_stream.specs.Keystream.{keystream, xor_bytes}
use Rattle.chacha_stream.proofs.StreamLaws.{over_zeros}
use Rattle.adss_commit.proofs.Keystreams.{number-at_place}
use Rattle.nest_client.specs.Report.{client_nonce}
use Rattle.nest_client.specs.Generator.{drawn, draw_key}
use Rattle.nest_client.proofs.generator.draws_of.Goals as goal

pub returns : goal.returns
unfolding drawn
returns c = λ j within.
    let key : List ℕ = draw_key c.args.number in
    let nonce : List ℕ = client_nonce c.args.i in
    let stream : c.xor_stream.new.bytes ≡ keystream key nonce 0 0 32 =
    c.xor_stream.ensures ∙ ap₂ (λ (k n : List ℕ). xor_bytes (replicate 32 0) (keystream k n 0 0 32)) c.labelled.ensures c.client_nonce.ensures
    ∙ over_zeros key nonce 0 0 32 in
    let inside : j < length c.read_u64_into.new.dst = omega (arith, c.read_u64_into.auto.dst) in
    c.read_u64_into.ensures j inside ∙ ap (λ (b : List ℕ). big_number 8 (drop (8 * j) b)) stream ∙ number-at_place key nonce 32 (8 * j) (omega arith)
