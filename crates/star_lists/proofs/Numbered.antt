-- Elements with their numbers, and joined lists.
use Rattle.std.proofs.Common.{◌≡◌, ℕ, zero, suc, ◌+◌, ◌<◌, List, [], ◌∷◌, ◌++◌, Option, inl, inr, length, refl, sym, ap, ◌∙◌, subst, map, arith, zero-add}
use Rattle.std.specs.List.{filter_map, cons_option}
use Rattle.std.proofs.lemmas.Bool.{cases_lt}
use Rattle.std.proofs.lemmas.List.Elements.{filter_map-append}
use Rattle.std.proofs.lemmas.List.{map-append}
use Rattle.star_lists.specs.Numbered.{numbered_from, joined_below}
use Rattle.star_lists.proofs.Elements.{In}
use Rattle.star_lists.proofs.Inside.{in_left, in_right, in_either}

-- two parts, the second numbered on
pub numbered-append : {X Y : Type 0} (i : ℕ) (f : ℕ → X → Y) (xs ys : List X)
    → numbered_from i f (xs ++ ys) ≡ numbered_from i f xs ++ numbered_from (i + length xs) f ys
numbered-append i f [] ys = ap (λ n. numbered_from n f ys) (omega arith)
numbered-append i f (x ∷ xs) ys =
    ap (λ l. f i x ∷ l) (numbered-append (i + 1) f xs ys ∙ ap (λ n. numbered_from (i + 1) f xs ++ numbered_from n f ys) (omega arith))

-- one more element has the next number
pub numbered_push : {X Y : Type 0} (i : ℕ) (f : ℕ → X → Y) (xs : List X) (x : X)
    → numbered_from i f (xs ++ x ∷ []) ≡ numbered_from i f xs ++ f (i + length xs) x ∷ []
numbered_push i f xs x = numbered-append i f xs (x ∷ [])

-- what the items give, with one more
pub given_push : {X Y : Type 0} (f : ℕ → X → Option Y) (xs : List X) (x : X)
    → filter_map (λ o. o) (numbered_from 0 f (xs ++ x ∷ [])) ≡ filter_map (λ o. o) (numbered_from 0 f xs) ++ cons_option (f (length xs) x) []
given_push f xs x =
    ap (filter_map (λ o. o)) (numbered_push 0 f xs x ∙ ap (λ n. numbered_from 0 f xs ++ f n x ∷ []) (zero-add (length xs)))
    ∙ filter_map-append (λ o. o) (numbered_from 0 f xs) (f (length xs) x ∷ [])

-- ---- joined lists

pub joined_map : {X Y : Type 0} (t : X → Y) (f : ℕ → List Y) (g : ℕ → List X) → ((l : ℕ) → f l ≡ map t (g l)) → (n : ℕ)
    → joined_below f n ≡ map t (joined_below g n)
joined_map t f g h zero = refl
joined_map t f g h (suc n) = (λ i. joined_map t f g h n i ++ h n i) ∙ sym (map-append t (joined_below g n) (g n))

-- where each of them is empty
pub nothing_joined : {X : Type 0} (f : ℕ → List X) (n : ℕ) → ((l : ℕ) → f l ≡ []) → joined_below f n ≡ []
nothing_joined f zero h = refl
nothing_joined f (suc n) h = λ i. nothing_joined f n h i ++ h n i

-- an element of one of them
pub from_joined : {X : Type 0} (f : ℕ → List X) (n : ℕ) (x : X) → In x (joined_below f n) → (l : ℕ) × (l < n) × In x (f l)
from_joined f zero x i = absurd i
from_joined f (suc n) x i = elim (in_either x (joined_below f n) (f n) i) [
  | inl j ↦ let r = from_joined f n x j in (r.0, omega (arith, r.1), r.2)
  | inr j ↦ (n, omega arith, j)
]

pub in_joined : {X : Type 0} (f : ℕ → List X) (n l : ℕ) (x : X) → l < n → In x (f l) → In x (joined_below f n)
in_joined f zero l x lt i = absurd (omega arith)
in_joined f (suc n) l x lt i = elim (cases_lt l n) [
  | inl less ↦ in_left x (joined_below f n) (f n) (in_joined f n l x less i)
  | inr ge ↦ in_right x (joined_below f n) (f n) (subst (λ m. In x (f m)) (omega arith) i)
]
