use Rattle.std.proofs.Common.{◌≡◌, ◌∙◌, ◌≤◌, ◌+◌, ◌-◌, ◌*◌, ℕ, List, [], ◌∷◌, slice_set, ap, ap₂, arith}
use Rattle.chacha_stream.specs.Keystream.{keystream}
use Rattle.shamir_limbs.specs.Coefficients.{constants}
use Rattle.shamir_limbs.specs.Limbs.{limbs}
use Rattle.adss_commit.specs.declared.context.Context.{Context}
use Rattle.adss_commit.specs.Derivation.{polynomial, coin_key, zero_nonce}
use Rattle.adss_commit.proofs.Filling.{constant, filled, length-filled, filled_first, filled_more, filled_all}
use Rattle.adss_commit.proofs.polynomials.coefficients_of.Goals as goal

pub powers-init : goal.powers-init
powers-init c =
    let x : Context = c.args.context.now in
    let made : c.in_ok-made.made ≡ constant x 0 ∷ constant x 1 ∷ constant x 2 ∷ [] = c.in_ok-made.ensures ∙ ap (λ (key : List ℕ). constants (limbs key) x.k) c.requires.key in
    made
    ∙ ap₂ (λ (p q : List ℕ). p ∷ q ∷ constant x 2 ∷ []) (filled_first x 0) (filled_first x 1)
    ∙ ap (λ (r : List ℕ). filled x 0 1 ∷ filled x 1 1 ∷ r ∷ []) (filled_first x 2)

pub set-requires-clause-within : goal.set-requires-clause-within
set-requires-clause-within c =
    rw c.powers.invariant (omega (arith, length-filled c.args.context.now 0 c.powers.i (omega arith) (omega arith)))

pub set-requires-in-powers-clause-within : goal.set-requires-in-powers-clause-within
set-requires-in-powers-clause-within c =
    rw (c.set.ensures, c.powers.invariant) (omega (arith, length-filled c.args.context.now 1 c.powers.i (omega arith) (omega arith)))

pub set-requires-in-powers-2-clause-within : goal.set-requires-in-powers-2-clause-within
set-requires-in-powers-2-clause-within c =
    rw (c.set-in-powers.ensures, c.set.ensures, c.powers.invariant) (omega (arith, length-filled c.args.context.now 2 c.powers.i (omega arith) (omega arith)))

pub powers-preserved : goal.powers-preserved
powers-preserved c =
    let x : Context = c.args.context.now in
    let i : ℕ = c.powers.i in
    let place : ℕ = 24 * (i - 1) in
    let coins : c.in_ok-bytes.bytes.items ≡ keystream (coin_key x) zero_nonce 0 0 (24 * (x.k - 1)) =
    c.in_ok-bytes.ensures.bytes ∙ ap (λ (key : List ℕ). keystream key zero_nonce 0 0 (24 * (x.k - 1))) c.coin_key.ensures in
    let first : slice_set (filled x 0 i) i c.number_at.result ≡ filled x 0 (i + 1) =
    filled_more x c.deref.result.now 0 i place _ (omega arith) (omega arith) (omega arith) (omega arith) (c.deref.ensures.value ∙ coins) c.number_at.ensures in
    let second : slice_set (filled x 1 i) i c.number_at-in-powers.result ≡ filled x 1 (i + 1) =
    filled_more x c.deref-in-powers.result.now 1 i (place + 8) _ (omega arith) (omega arith) (omega arith) (omega arith) (c.deref-in-powers.ensures.value ∙ coins) c.number_at-in-powers.ensures in
    let third : slice_set (filled x 2 i) i c.number_at-in-powers-2.result ≡ filled x 2 (i + 1) =
    filled_more x c.deref-in-powers-2.result.now 2 i (place + 16) _ (omega arith) (omega arith) (omega arith) (omega arith) (c.deref-in-powers-2.ensures.value ∙ coins) c.number_at-in-powers-2.ensures in
    rw (c.set-in-powers-2.ensures, c.set-in-powers.ensures, c.set.ensures, c.powers.invariant)
    (ap₂ (λ (p q : List ℕ). p ∷ q ∷ slice_set (filled x 2 i) i c.number_at-in-powers-2.result ∷ []) first second
    ∙ ap (λ (r : List ℕ). filled x 0 (i + 1) ∷ filled x 1 (i + 1) ∷ r ∷ []) third)

pub returns : goal.returns
returns c =
    let x : Context = c.args.context.now in
    let low : 1 ≤ x.k = omega arith in
    let whole : c.powers.i ≡ x.k = omega arith in
    c.powers.invariant
    ∙ ap₂ (λ (p q : List ℕ). p ∷ q ∷ filled x 2 c.powers.i ∷ []) (filled_all x 0 c.powers.i low whole) (filled_all x 1 c.powers.i low whole)
    ∙ ap (λ (r : List ℕ). polynomial x 0 ∷ polynomial x 1 ∷ r ∷ []) (filled_all x 2 c.powers.i low whole)
