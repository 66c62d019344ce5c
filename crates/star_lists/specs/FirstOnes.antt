-- The first ones of a list.
use Rattle.std.specs.Prelude.{Bool, not, List, [], ◌∷◌, filter}

-- each element once, in the order of the first ones that are the same
abbrev pub first_ones : {X : Type 0} → (X → X → Bool) → List X → List X
first_ones same [] = []
first_ones same (x ∷ xs) = x ∷ filter (λ y. not (same x y)) (first_ones same xs)
