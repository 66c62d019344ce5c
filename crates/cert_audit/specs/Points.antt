-- A point as the four numbers that it is spelt in.
use Rattle.std.specs.Prelude.{ℕ, List, [], ◌∷◌, slice_index}
use Rattle.shamir_limbs.specs.declared.share.Point.{Point}

abbrev pub point_of : List ℕ → Point
point_of numbers = record { x = slice_index numbers 0; y = slice_index numbers 1 ∷ slice_index numbers 2 ∷ slice_index numbers 3 ∷ [] }
