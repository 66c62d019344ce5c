-- A box is opened by its own key.
use Rattle.std.proofs.Common.{◌≡◌, ◌∙◌, ℕ, List, length, ap}
use Rattle.chacha_stream.specs.Keystream.{keystream, xor_bytes}
use Rattle.chacha_stream.proofs.StreamLaws.{same_length, twice}
use Rattle.report_frame.specs.declared.version.Version.{Version}
use Rattle.adss_commit.specs.declared.context.Context.{Context}
use Rattle.adss_commit.specs.Derivation.{box_of, box_key_of, zero_nonce, context_key, context_tag, context_check, context_named, derived, context_head, Opens}

pub box_twice : (version : Version) (key value : List ℕ) → box_of version key (box_of version key value) ≡ value
box_twice version key value =
    let stream : List ℕ = keystream (box_key_of version key) zero_nonce 0 0 (length value) in
    ap (λ (n : ℕ). xor_bytes (xor_bytes value stream) (keystream (box_key_of version key) zero_nonce 0 0 n)) (same_length value stream)
    ∙ twice value stream

pub own_head_opens : (c : Context) → Opens (derived c).key (context_head c) c.parent c.epoch c.level
own_head_opens c =
    let named : context_named (derived c).key (context_head c) c.parent c.epoch c.level ≡ c =
    ap (λ (v : List ℕ). record c { value = v }) (box_twice c.version (context_key c) c.value) in
    (ap context_key named, ap context_tag named, ap context_check named)
