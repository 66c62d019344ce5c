use Rattle.std.proofs.Common.{◌≡◌, ◌∙◌, length, replicate, rules}
use Rattle.std.proofs.lemmas.List.{with_items_is}
use Rattle.chacha_stream.proofs.StreamLaws.{keystream_from_zeros}
use Rattle.adss_commit.specs.Derivation.{zero_nonce}
use Rattle.adss_commit.proofs.polynomials.stream_bytes.Goals as goal

pub returns-clause-bytes : goal.returns-clause-bytes
returns-clause-bytes c =
    let zeros : c.in_ok-bytes.bytes.items ≡ replicate c.args.n 0 = search rules in
    let long : length c.xor_stream.new.bytes ≡ c.in_ok-bytes.bytes.len = search rules in
    with_items_is c.in_ok-bytes.bytes c.xor_stream.new.bytes long
    ∙ keystream_from_zeros c.args.key.now zero_nonce 0 c.args.n c.deref_mut.result.now c.xor_stream.new.bytes (c.deref_mut.ensures.value ∙ zeros) c.xor_stream.ensures
