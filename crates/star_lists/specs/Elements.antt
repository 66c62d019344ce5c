-- The elements of lists.
use Rattle.std.specs.Prelude.{◌≡◌, Bool, List, length, filter}
use Rattle.std.specs.List.{Contains}

-- two lists have the same elements
abbrev pub SameElements : {X : Type 0} → List X → List X → Type 0
SameElements xs ys = ((x : _) → Contains xs x → Contains ys x) × ((x : _) → Contains ys x → Contains xs x)

-- each test passes equally often
abbrev pub EquallyOften : {X : Type 0} → List X → List X → Type 0
EquallyOften {X} xs ys = (test : X → Bool) → length (filter test xs) ≡ length (filter test ys)
