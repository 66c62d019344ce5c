use Rattle.std.proofs.Common.{◌≡◌, ◌∙◌, ℕ, List, [], ◌∷◌, get_or, ap, ap₂}
use Rattle.poly61.specs.Poly.{value}
use Rattle.adss_commit.specs.declared.context.Context.{Context}
use Rattle.adss_commit.specs.Derivation.{polynomial}
use Rattle.adss_commit.proofs.Horner.{value_is}
use Rattle.adss_commit.proofs.share.share_of.Goals as goal

pub returns : goal.returns
returns c =
    let x : Context = c.args.context.now in
    let key : List ℕ = c.args.key.now.bytes in
    let coins : List ℕ = c.coin_key.result in
    let first : c.add.result ≡ value (polynomial x 0) c.args.x =
    value_is x 0 key coins c.args.x (get_or c.limbs_of.result 0 c.index-limbs_of-0.result) (get_or c.values_behind.result 0 c.index-values_behind-0.result) c.mul.result c.add.result c.requires.key c.coin_key.ensures
    (ap (λ (l : List ℕ). get_or l 0 c.index-limbs_of-0.result) c.limbs_of.ensures)
    (ap (λ (l : List ℕ). get_or l 0 c.index-values_behind-0.result) c.values_behind.ensures) c.mul.ensures.product c.add.ensures.sum in
    let second : c.add-2.result ≡ value (polynomial x 1) c.args.x =
    value_is x 1 key coins c.args.x (get_or c.limbs_of.result 1 c.index-limbs_of-1.result) (get_or c.values_behind.result 1 c.index-values_behind-1.result) c.mul-2.result c.add-2.result c.requires.key c.coin_key.ensures
    (ap (λ (l : List ℕ). get_or l 1 c.index-limbs_of-1.result) c.limbs_of.ensures)
    (ap (λ (l : List ℕ). get_or l 1 c.index-values_behind-1.result) c.values_behind.ensures) c.mul-2.ensures.product c.add-2.ensures.sum in
    let third : c.add-3.result ≡ value (polynomial x 2) c.args.x =
    value_is x 2 key coins c.args.x (get_or c.limbs_of.result 2 c.index-limbs_of-2.result) (get_or c.values_behind.result 2 c.index-values_behind-2.result) c.mul-3.result c.add-3.result c.requires.key c.coin_key.ensures
    (ap (λ (l : List ℕ). get_or l 2 c.index-limbs_of-2.result) c.limbs_of.ensures)
    (ap (λ (l : List ℕ). get_or l 2 c.index-values_behind-2.result) c.values_behind.ensures) c.mul-3.ensures.product c.add-3.ensures.sum in
    ap₂ (λ (a b : ℕ). a ∷ b ∷ c.add-3.result ∷ []) first second
    ∙ ap (λ (d : ℕ). value (polynomial x 0) c.args.x ∷ value (polynomial x 1) c.args.x ∷ d ∷ []) third
