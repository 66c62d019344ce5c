-- The polynomials of a context while their coefficients are written.
use Rattle.std.proofs.Common.{◌≡◌, ◌∙◌, ◌<◌, ◌≤◌, ℕ, zero, suc, ◌+◌, ◌-◌, ◌*◌, ◌%◌, ◌^◌, List, ◌∷◌, ◌++◌, length, drop, replicate, get_or, set, slice_index, slice_set, refl, ap, ap₂, sym, arith}
use Rattle.std.proofs.Math.Seq.{paste}
use Rattle.std.proofs.lemmas.List.Edits.{paste_more, paste_all, length-paste}
use Rattle.std.proofs.lemmas.List.{drop_all, append-nil, length-replicate}
use Rattle.std.proofs.lemmas.List.FromFn.{get_or-map-range_with_len, length-map-range_with_len}
use Rattle.byteorder.specs.Endian.{big_number}
use Rattle.chacha_stream.specs.Keystream.{keystream}
use Rattle.field61.specs.declared.TheConstants.{MODULUS}
use Rattle.shamir_limbs.specs.Limbs.{limbs}
use Rattle.adss_commit.specs.declared.context.Context.{Context}
use Rattle.adss_commit.specs.Derivation.{polynomial, field_number, context_key, coin_key, zero_nonce}
use Rattle.adss_commit.proofs.Keystreams.{number-at_place}

-- polynomial j with its constant term alone
abbrev pub constant : Context → ℕ → List ℕ
constant c j = slice_index (limbs (context_key c)) j ∷ replicate (c.k - 1) 0

-- polynomial j with the coefficients below i
abbrev pub filled : Context → ℕ → ℕ → List ℕ
filled c j i = paste (constant c j) 0 (polynomial c j) i

pub length-polynomial : (c : Context) (j : ℕ) → 1 ≤ c.k → length (polynomial c j) ≡ c.k
unfolding polynomial
length-polynomial c j low =
    let coefficient : ℕ → ℕ = λ (i : ℕ). field_number (coin_key c) (8 * (3 * i + j)) in
    omega (arith, length-map-range_with_len coefficient 0 (c.k - 1))

length-constant : (c : Context) (j : ℕ) → 1 ≤ c.k → length (constant c j) ≡ c.k
length-constant c j low = omega (arith, length-replicate {A = ℕ})

pub length-filled : (c : Context) (j i : ℕ) → 1 ≤ c.k → i ≤ c.k → length (filled c j i) ≡ c.k
length-filled c j i low within =
    length-paste (constant c j) 0 (polynomial c j) i (omega (arith, length-constant c j low)) (omega (arith, length-polynomial c j low)) ∙ length-constant c j low

-- at first the constant term is there
pub filled_first : (c : Context) (j : ℕ) → constant c j ≡ filled c j 1
unfolding polynomial
filled_first c j = refl

get_or-polynomial : (c : Context) (j i : ℕ) → 1 ≤ i → i < c.k → get_or (polynomial c j) i 0 ≡ field_number (coin_key c) (8 * (3 * (i - 1) + j))
unfolding polynomial
get_or-polynomial c j zero low within = absurd (omega arith)
get_or-polynomial c j (suc i) low within =
    let coefficient : ℕ → ℕ = λ (n : ℕ). field_number (coin_key c) (8 * (3 * n + j)) in
    let same : suc i - 1 ≡ i = omega arith in
    get_or-map-range_with_len coefficient 0 (c.k - 1) i i 0 (omega arith) (omega arith) ∙ ap coefficient (sym same)

-- one coefficient more, read at its place of the coins
pub filled_more : (c : Context) (coins : List ℕ) (j i place n : ℕ) → 1 ≤ i → i < c.k → j < 3 → place ≡ 24 * (i - 1) + 8 * j
    → coins ≡ keystream (coin_key c) zero_nonce 0 0 (24 * (c.k - 1)) → n ≡ big_number 8 (drop place coins) % 2 ^ 61 % MODULUS
    → slice_set (filled c j i) i n ≡ filled c j (i + 1)
unfolding field_number
filled_more c coins j i place n low within limb place_is coins_are number =
    let same_place : place ≡ 8 * (3 * (i - 1) + j) = omega arith in
    let coefficient : n ≡ get_or (polynomial c j) i 0 =
    number ∙ ap (λ (b : List ℕ). big_number 8 (drop place b) % 2 ^ 61 % MODULUS) coins_are
    ∙ ap (λ (m : ℕ). m % 2 ^ 61 % MODULUS) (number-at_place (coin_key c) zero_nonce (24 * (c.k - 1)) place (omega arith))
    ∙ ap (λ (p : ℕ). field_number (coin_key c) p) same_place
    ∙ sym (get_or-polynomial c j i low within) in
    let here : 0 + i ≡ i = omega arith in
    ap₂ (λ (p m : ℕ). set (filled c j i) p m) (sym here) coefficient
    ∙ paste_more (constant c j) 0 (polynomial c j) i 0 (omega (arith, length-constant c j (omega arith))) (omega (arith, length-polynomial c j (omega arith)))

-- at last all coefficients are there
pub filled_all : (c : Context) (j i : ℕ) → 1 ≤ c.k → i ≡ c.k → filled c j i ≡ polynomial c j
filled_all c j i low whole =
    paste_all (constant c j) 0 (polynomial c j) i (omega (arith, length-polynomial c j low))
    ∙ ap (λ (t : List ℕ). polynomial c j ++ t) (drop_all (0 + i) (constant c j) (omega (arith, length-constant c j low))) ∙ append-nil (polynomial c j)
