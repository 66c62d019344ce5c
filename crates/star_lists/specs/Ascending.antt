-- The elements of a list in ascending order: one of those that tie, or all of them.
use Rattle.std.specs.Prelude.{List, [], ◌∷◌}
use Rattle.std.specs.declared.cmp.Ordering.{Ordering}
use Rattle.std.specs.declared.cmp.Ordering.TheVariants.{Less, Equal, Greater}

-- the one of three that the order tells
abbrev pub by_order : {X : Type 0} → Ordering → X → X → X → X
by_order Less a b c = a
by_order Equal a b c = b
by_order Greater a b c = c

-- the element in its place, unless one that ties with it is there
abbrev pub put : {X : Type 0} → (X → X → Ordering) → X → List X → List X
put c x [] = x ∷ []
put c x (y ∷ ys) = by_order (c x y) (x ∷ y ∷ ys) (y ∷ ys) (y ∷ put c x ys)

-- one of the elements that tie, for all of them, in ascending order
abbrev pub ascending : {X : Type 0} → (X → X → Ordering) → List X → List X
ascending c [] = []
ascending c (x ∷ xs) = put c x (ascending c xs)

-- the element before the first one that it is not greater than
abbrev pub put_before : {X : Type 0} → (X → X → Ordering) → X → List X → List X
put_before c x [] = x ∷ []
put_before c x (y ∷ ys) = by_order (c x y) (x ∷ y ∷ ys) (x ∷ y ∷ ys) (y ∷ put_before c x ys)

-- all of the elements in ascending order, and those that tie in the order in which they stand
unfoldable pub in_order : {X : Type 0} → (X → X → Ordering) → List X → List X
in_order c [] = []
in_order c (x ∷ xs) = put_before c x (in_order c xs)
