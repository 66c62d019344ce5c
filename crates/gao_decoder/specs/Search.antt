-- Decoding as a search through all polynomials of low degree, which is never computed.
use Rattle.std.specs.Prelude.{ℕ, zero, suc, ◌+◌, ◌*◌, Bool, nat_le, List, [], ◌∷◌, length, map, Option}
use Rattle.std.specs.List.{find, flat_map, range_with_len}
use Rattle.field61.specs.declared.TheConstants.{MODULUS}
use Rattle.gao_decoder.specs.Decoding.{agreement}

-- all polynomials of degree below k with coefficients below p: all lists of k such numbers
unfoldable pub polynomials_below : ℕ → ℕ → List (List ℕ)
polynomials_below p zero = [] ∷ []
polynomials_below p (suc k) = flat_map (λ c. map (λ f. c ∷ f) (polynomials_below p k)) (range_with_len 0 p)

-- the polynomial agrees with m of the n points, where 2m is at least n + k
abbrev pub is_decoded : List ℕ → List ℕ → ℕ → List ℕ → Bool
is_decoded xs ys k f = nat_le (length xs + k) (2 * agreement f xs ys)

-- the first polynomial of degree below k that agrees with enough of the points
unfoldable pub decoding_of : List ℕ → List ℕ → ℕ → Option (List ℕ)
decoding_of xs ys k = find (is_decoded xs ys k) (polynomials_below MODULUS k)
