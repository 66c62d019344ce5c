-- The numbers of the three polynomials of a key line.
use Rattle.std.specs.Prelude.{ℕ, List, [], ◌++◌, Option}
use Rattle.std.specs.List.{find}
use Rattle.std.specs.Option.{option_map_or}
use Rattle.field61.specs.declared.TheConstants.{MODULUS}
use Rattle.shamir_limbs.specs.Search.{Triple, triples_below, is_key_line}
use Rattle.shamir_limbs.specs.declared.share.Point.{Point}

-- the first triple of polynomials that is a key line of the points
unfoldable pub triple_of : List Point → ℕ → Option Triple
triple_of points k = find (is_key_line points k) (triples_below MODULUS k)

-- the coefficients of three polynomials, each from the lowest, joined
abbrev pub joined : Triple → List ℕ
joined q = q.first ++ (q.second ++ q.third)

-- the k coefficients of each polynomial of the key line of the points, if there is one
unfoldable pub line_numbers : List Point → ℕ → List ℕ
line_numbers points k = option_map_or joined (triple_of points k) []
