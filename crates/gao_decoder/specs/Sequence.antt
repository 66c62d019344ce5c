-- The remainder sequence of the vanishing product and the interpolated polynomial. Each remainder r has a
-- cofactor v, so that r is v times the interpolated polynomial at each point.
use Rattle.std.specs.Prelude.{ℕ, ◌+◌, ◌*◌, ◌≤◌, ◌<◌, ◌≡◌, List, length, slice_index}
use Rattle.field61.specs.Field.{field_product}
use Rattle.poly61.specs.Poly.{value, HasDegree, HasDegreeBelow}
use Rattle.gao_decoder.specs.declared.sequence.Remainders.{Remainders}

-- at each point the remainder is the cofactor times y
abbrev pub IsTied : List ℕ → List ℕ → List ℕ → List ℕ → Type 0
IsTied r v xs ys = (i : ℕ) → i < length xs → value r (slice_index xs i) ≡ field_product (value v (slice_index xs i)) (slice_index ys i)

-- two neighbours of the sequence: the upper remainder r has degree d and the cofactor of the lower remainder s degree e
pub record AreNeighbours (xs ys r v s w : List ℕ) (d e : ℕ) : Type 0 where
  pub tied_upper : IsTied r v xs ys
  pub tied_lower : IsTied s w xs ys
  pub upper : HasDegree r d
  pub lower : HasDegreeBelow s d
  pub lower_cofactor : HasDegree w e
  pub upper_cofactor : HasDegreeBelow v e
  pub sum : d + e ≡ length xs

-- twice the degree is below the bound
abbrev pub IsLow : List ℕ → ℕ → Type 0
IsLow s bound = (i : ℕ) → bound ≤ 2 * i → slice_index s i ≡ 0

-- where the sequence stops
pub record IsStopped (xs ys s w : List ℕ) (k e : ℕ) : Type 0 where
  pub tied : IsTied s w xs ys
  pub low : IsLow s (length xs + k)
  pub cofactor : HasDegree w e
  pub few : 2 * e + k ≤ length xs

-- each of the four polynomials has this room
pub record HaveRoom (r : Remainders) (room : ℕ) : Type 0 where
  pub upper : length r.upper ≡ room
  pub upper_cofactor : length r.upper_cofactor ≡ room
  pub lower : length r.lower ≡ room
  pub lower_cofactor : length r.lower_cofactor ≡ room
