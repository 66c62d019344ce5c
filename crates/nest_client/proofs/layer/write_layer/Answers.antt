use Rattle.std.proofs.Common.{◌≡◌, ◌∙◌, ◌++◌, ℕ, List, length, refl, ap, subst, sym, arith}
use Rattle.chacha_stream.proofs.StreamLaws.{same_length}
use Rattle.report_frame.specs.Frame.{Fields, IsFrame, sealed_part}
use Rattle.adss_commit.specs.declared.context.Context.{Context}
use Rattle.adss_commit.specs.Derivation.{body_of, polynomials}
use Rattle.nest_client.specs.declared.client.Client.{Client}
use Rattle.nest_client.specs.Place.{body_in}
use Rattle.nest_client.specs.Report.{layer}
use Rattle.nest_client.proofs.Layers.{layer_made, sealed_is_frame}
use Rattle.nest_client.proofs.Around.{layer_around}
use Rattle.nest_client.proofs.layer.write_layer.Goals as goal

pub write_around-requires-clause-long : goal.write_around-requires-clause-long
write_around-requires-clause-long c =
    let boxed : length c.box_value.result ≡ length c.args.context.now.value = ap length c.box_value.ensures ∙ same_length _ _ in
    omega (arith, boxed, c.requires.some)

pub returns-clause-bytes : goal.returns-clause-bytes
returns-clause-bytes c =
    let client : Client = c.args.reporter.now.client in
    let x : Context = c.args.context.now in
    let frame : List ℕ = c.args.frame.now in
    let nonce : List ℕ = c.nonce_of-nonce.result in
    let key : List ℕ = c.body_key-body_key.result in
    let plain : List ℕ = body_in frame (length x.value) in
    let body : List ℕ = body_of key nonce (body_in frame (length c.box_value.result)) in
    let boxed : length c.box_value.result ≡ length x.value = ap length c.box_value.ensures ∙ same_length _ _ in
    let body_is : body ≡ body_of key nonce plain = ap (λ (n : ℕ). body_of key nonce (body_in frame n)) boxed in
    let made =
    layer_made client c.args.shift x plain c.coins_of-coins.result c.point_of-x.result nonce c.args.derivation.now
    (polynomials x) c.share_of.result c.index-share_of-0.result c.index-share_of-1.result c.index-share_of-2.result c.add.result
    key body c.box_value.result c.seal_key-seal_key.result
    c.coins_of-coins.ensures c.point_of-x.ensures c.nonce_of-nonce.ensures c.requires.derivation refl c.share_of.ensures
    c.add.ensures.sum
    c.body_key-body_key.ensures body_is c.box_value.ensures c.seal_key-seal_key.ensures in
    let of_layer =
    layer_around client c.args.shift x frame c.requires.level c.know_ranges.ensures.epoch c.requires.k_low c.requires.k_high c.know_ranges.ensures.low c.know_ranges.ensures.high
    c.requires.some c.requires.short in
    sealed_is_frame (layer client c.args.shift x plain) c.write_around.new.frame of_layer (c.write_around.ensures ∙ ap (λ (r : Fields). sealed_part r ++ r.seal) made)

pub returns-clause-frame : goal.returns-clause-frame
returns-clause-frame c =
    let x : Context = c.args.context.now in
    let of_layer =
    layer_around c.args.reporter.now.client c.args.shift x c.args.frame.now c.requires.level c.know_ranges.ensures.epoch c.requires.k_low c.requires.k_high c.know_ranges.ensures.low
    c.know_ranges.ensures.high c.requires.some c.requires.short in
    subst (IsFrame (layer c.args.reporter.now.client c.args.shift x (body_in c.args.frame.now (length x.value)))) (sym (returns-clause-bytes c)) of_layer
