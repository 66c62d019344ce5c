-- The key line of points as a search through all triples of polynomials of low degree, which is never computed.
use Rattle.std.specs.Prelude.{ℕ, ◌+◌, ◌*◌, ◌^◌, Bool, ◌&&◌, nat_le, nat_lt, List, length, slice_index, map, Option}
use Rattle.std.specs.List.{find, flat_map}
use Rattle.std.specs.Option.{option_map}
use Rattle.field61.specs.declared.TheConstants.{MODULUS}
use Rattle.gao_decoder.specs.Search.{polynomials_below}
use Rattle.shamir_limbs.specs.KeyLine.{agreement_of_all, values_at_zero}
use Rattle.shamir_limbs.specs.Limbs.{key_bytes}
use Rattle.shamir_limbs.specs.declared.recovery.Recovered.{Recovered}
use Rattle.shamir_limbs.specs.declared.share.Point.{Point}

-- three polynomials, one for each limb of a key
pub record Triple : Type 0 where
  pub first : List ℕ
  pub second : List ℕ
  pub third : List ℕ

-- all triples of polynomials of degree below k with coefficients below p
unfoldable pub triples_below : ℕ → ℕ → List Triple
triples_below p k =
    let all = polynomials_below p k in
    flat_map (λ f. flat_map (λ g. map (λ h. record { first = f; second = g; third = h }) all) all) all

-- the numbers have at most the bits of limbs: 48, 40 and 40
abbrev pub are_limbs : List ℕ → Bool
are_limbs numbers = nat_lt (slice_index numbers 0) (2 ^ 48) && (nat_lt (slice_index numbers 1) (2 ^ 40) && nat_lt (slice_index numbers 2) (2 ^ 40))

-- the triple has the limbs of a key as its values at 0, and m of the n points lie on all three, where 2m is at least n + k
abbrev pub is_key_line : List Point → ℕ → Triple → Bool
is_key_line points k q =
    are_limbs (values_at_zero q.first q.second q.third) && nat_le (length points + k) (2 * agreement_of_all q.first q.second q.third points)

-- the key whose limbs are the values at 0, and how many of the points lie on all three polynomials
abbrev pub recovered_from : List ℕ → List ℕ → List ℕ → List Point → Recovered
recovered_from q0 q1 q2 points = record { key = record { bytes = key_bytes (values_at_zero q0 q1 q2) }; agree = agreement_of_all q0 q1 q2 points }

-- what the first triple gives that is a key line of the points
unfoldable pub key_line_of : List Point → ℕ → Option Recovered
key_line_of points k = option_map (λ q. recovered_from q.first q.second q.third points) (find (is_key_line points k) (triples_below MODULUS k))
