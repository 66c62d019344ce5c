-- Horner's rule over the coefficients in a keystream.
use Rattle.std.proofs.Common.{◌≡◌, ◌∙◌, ◌<◌, ℕ, suc, ◌+◌, ◌-◌, ◌*◌, ◌%◌, ◌^◌, List, take, drop, slice_index, refl, ap, ap₂, arith}
use Rattle.byteorder.specs.Endian.{big_number}
use Rattle.chacha_stream.specs.Keystream.{keystream}
use Rattle.field61.specs.Field.{field_sum, field_product}
use Rattle.field61.specs.declared.TheConstants.{MODULUS}
use Rattle.poly61.specs.Poly.{value}
use Rattle.shamir_limbs.specs.Limbs.{limbs}
use Rattle.adss_commit.specs.declared.context.Context.{Context}
use Rattle.adss_commit.specs.Derivation.{field_number, coefficients_from, values_from, polynomial, context_key, coin_key, zero_nonce}
use Rattle.adss_commit.proofs.Keystreams.{number-in_part}

-- no coefficients have one value, wherever they would begin
pub none_left : (key : List ℕ) (a b n m x : ℕ) → n ≡ 0 → m ≡ 0 → values_from key a n x ≡ values_from key b m x
none_left key a b n m x none nothing = rw (none, nothing) refl

-- the coefficient at a place of the coins of a block
pub coefficient_at : (key coins : List ℕ) (block count i j place start c : ℕ) → take (24 * count) coins ≡ keystream key zero_nonce 0 (1536 * block) (24 * count)
    → i < count → j < 3 → place ≡ 24 * i + 8 * j → start ≡ 64 * block + i → c ≡ big_number 8 (drop place coins) % 2 ^ 61 % MODULUS
    → c ≡ field_number key (8 * (3 * start + j))
unfolding field_number
coefficient_at key coins block count i j place start c drawn within limb place_is start_is number =
    let there : 1536 * block + place ≡ 8 * (3 * start + j) = omega arith in
    number ∙ ap (λ (m : ℕ). m % 2 ^ 61 % MODULUS) (number-in_part key zero_nonce coins (1536 * block) (24 * count) place drawn (omega arith)
    ∙ ap (λ (p : ℕ). big_number 8 (keystream key zero_nonce 0 p 8)) there)

-- one coefficient in front
pub one_more : (key : List ℕ) (j start n next more x c behind product sum : ℕ) → next ≡ start + 1 → more ≡ suc n → c ≡ field_number key (8 * (3 * start + j))
    → behind ≡ value (coefficients_from key j next n) x → product ≡ field_product x behind → sum ≡ field_sum c product
    → sum ≡ value (coefficients_from key j start more) x
one_more key j start n next more x c behind product sum next_is more_is c_is behind_is product_is sum_is =
    rw (more_is, sum_is, product_is, behind_is, next_is, c_is) refl

-- the value of a polynomial from its constant term and what follows
pub value_is : (c : Context) (j : ℕ) (key coins : List ℕ) (x limb behind product sum : ℕ) → key ≡ context_key c → coins ≡ coin_key c
    → limb ≡ slice_index (limbs key) j → behind ≡ value (coefficients_from coins j 0 (c.k - 1)) x → product ≡ field_product x behind → sum ≡ field_sum limb product
    → sum ≡ value (polynomial c j) x
unfolding polynomial
value_is c j key coins x limb behind product sum key_is coins_are limb_is behind_is product_is sum_is =
    sum_is
    ∙ ap₂ field_sum (limb_is ∙ ap (λ (l : List ℕ). slice_index (limbs l) j) key_is)
    (product_is ∙ ap (field_product x) (behind_is ∙ ap (λ (l : List ℕ). value (coefficients_from l j 0 (c.k - 1)) x) coins_are))
