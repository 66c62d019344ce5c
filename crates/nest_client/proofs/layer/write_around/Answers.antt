use Rattle.std.proofs.Common.{◌≡◌, ◌∙◌, ◌≤◌, ◌+◌, ◌-◌, ◌++◌, ℕ, List, length, take, drop, slice_range, ap, arith}
use Rattle.chacha_stream.proofs.StreamLaws.{same_length}
use Rattle.hmac_seal.specs.Hmac.{hmac_sha256}
use Rattle.report_frame.specs.Frame.{sealed_part}
use Rattle.adss_commit.specs.Derivation.{body_of}
use Rattle.nest_client.specs.declared.front.Front.{Front}
use Rattle.nest_client.specs.Layout.{fields_of_front}
use Rattle.nest_client.specs.Place.{before_body, body_start}
use Rattle.nest_client.proofs.Around.{before-body, part_written, sealed_around, length-part}
use Rattle.nest_client.proofs.layer.write_around.Goals as goal

pub returns : goal.returns
returns c =
    let front : Front = c.args.front.now in
    let old : List ℕ = c.args.frame.now in
    let hidden : List ℕ = c.encrypt_part.new.frame in
    let key : List ℕ = c.args.body_key.now in
    let s : ℕ = body_start (length front.head.boxed) in
    let e : ℕ = length old - 32 in
    let body : List ℕ = body_of key front.nonce (slice_range old s e) in
    let start : c.body_start-start.result ≡ s = c.body_start-start.ensures in
    let order : s ≤ e = omega (arith, c.requires.long) in
    let whole : e + 32 ≡ length old = omega (arith, c.requires.long) in
    let long : length body ≡ e - s = same_length (slice_range old s e) _ ∙ length-part old s e order (omega arith) in
    let encrypted : hidden ≡ take s old ++ (body ++ drop e old) =
    c.encrypt_part.ensures ∙ ap (λ (n : ℕ). take n old ++ (body_of key front.nonce (slice_range old n e) ++ drop e old)) start in
    let read : slice_range hidden c.body_start-start.result e ≡ body =
    ap (λ (n : ℕ). slice_range hidden n e) start ∙ ap (λ (l : List ℕ). slice_range l s e) encrypted ∙ part_written old body s e order (omega arith) long in
    let before : List ℕ = c.as_slice.result.now in
    let spelled : before ≡ before_body (fields_of_front front body) =
    c.as_slice.ensures.value ∙ c.spell_before-before.ensures.bytes ∙ ap (λ (l : List ℕ). before_body (fields_of_front front l)) read in
    let before_long : length before ≡ s = ap length c.as_slice.ensures.value ∙ c.spell_before-before.ensures.long in
    let part : before ++ body ≡ sealed_part (fields_of_front front body) = ap (λ (l : List ℕ). l ++ body) spelled ∙ before-body (fields_of_front front body) in
    sealed_around old hidden c.put_first.new.frame c.put_seal.new.frame body before c.args.seal_key.now s e order whole long encrypted before_long c.put_first.ensures c.put_seal.ensures
    ∙ ap (λ (p : List ℕ). p ++ hmac_sha256 c.args.seal_key.now p) part
