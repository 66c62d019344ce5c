-- The places of elements, counted from 0.
use Rattle.std.specs.Prelude.{ℕ, suc, ◌+◌, Bool, List, [], ◌∷◌, Option, None, Some, if◌then◌else◌}
use Rattle.std.specs.Option.{option_map}

-- the places, counted from i, of the elements that pass the test
abbrev pub places_from : {X : Type 0} → ℕ → (X → Bool) → List X → List ℕ
places_from i test [] = []
places_from i test (x ∷ xs) = if test x then i ∷ places_from (i + 1) test xs else places_from (i + 1) test xs

-- the places of the elements that pass the test
abbrev pub places : {X : Type 0} → (X → Bool) → List X → List ℕ
places test xs = places_from 0 test xs

-- the place of the first element that passes the test
abbrev pub place_of : {X : Type 0} → (X → Bool) → List X → Option ℕ
place_of test [] = None
place_of test (x ∷ xs) = if test x then Some 0 else option_map suc (place_of test xs)
