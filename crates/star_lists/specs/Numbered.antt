-- Elements with their numbers, and lists joined.
use Rattle.std.specs.Prelude.{ℕ, zero, suc, ◌+◌, List, [], ◌∷◌, ◌++◌}

-- f of each number and element, counted from i
abbrev pub numbered_from : {X Y : Type 0} → ℕ → (ℕ → X → Y) → List X → List Y
numbered_from i f [] = []
numbered_from i f (x ∷ xs) = f i x ∷ numbered_from (i + 1) f xs

-- f 0, f 1 and so on, n of them, joined
abbrev pub joined_below : {X : Type 0} → (ℕ → List X) → ℕ → List X
joined_below f zero = []
joined_below f (suc n) = joined_below f n ++ f n
