-- What a search of a list finds, and the elements of what it searches.
use Rattle.std.proofs.Common.{◌≡◌, ◌∙◌, ℕ, zero, suc, ◌+◌, ◌<◌, ◌≤◌, Bool, true, false, cond, List, [], ◌∷◌, inl, inr, Some, IsSome, IfSome, refl, sym, ap, subst, arith}
use Rattle.std.specs.List.{All, find, flat_map, range_with_len}
use Rattle.std.proofs.lemmas.Bool.{cases_lt, false≢true}
use Rattle.std.proofs.lemmas.List.Elements.{All-nil, All-head, All-tail, All-append, All-from_get_or}
use Rattle.std.proofs.lemmas.List.FromFn.{length-range_with_len, get_or-range_with_len}
use Rattle.star_lists.proofs.Elements.{In}
use Rattle.star_lists.proofs.Inside.{in_left, in_right}

-- an element of what belongs to an element
pub in_flat_map : {X Y : Type 0} (f : X → List Y) (x : X) (y : Y) (xs : List X) → In x xs → In y (f x) → In y (flat_map f xs)
in_flat_map f x y [] i j = absurd i
in_flat_map f x y (w ∷ xs) (inl e) j = in_left y (f w) (flat_map f xs) (subst (λ v. In y (f v)) e j)
in_flat_map f x y (w ∷ xs) (inr i) j = in_right y (f w) (flat_map f xs) (in_flat_map f x y xs i j)

-- the numbers from a on, up to their end
pub in_range_with_len : (x a n : ℕ) → a ≤ x → x < a + n → In x (range_with_len a n)
in_range_with_len x a zero from below = absurd (omega arith)
in_range_with_len x a (suc n) from below = elim (cases_lt a x) [
  | inl later ↦ inr (in_range_with_len x (a + 1) n (omega arith) (omega arith))
  | inr here ↦ inl (omega arith)
]

-- what holds of each element of each piece
pub All-flat_map : {X Y : Type 0} (P : X → Type 0) (Q : Y → Type 0) (f : X → List Y) (xs : List X) → All P xs → ((x : X) → P x → All Q (f x)) → All Q (flat_map f xs)
All-flat_map P Q f [] all each = All-nil Q
All-flat_map P Q f (x ∷ xs) all each = All-append Q (f x) (flat_map f xs) (each x (All-head P x xs all)) (All-flat_map P Q f xs (All-tail P x xs all) each)

-- the numbers from 0 on are below their count
pub All-range_with_len : (n : ℕ) → All (λ x. x < n) (range_with_len 0 n)
All-range_with_len n = All-from_get_or (λ x. x < n) (range_with_len 0 n) 0
    (λ i within. let below : i < n = omega (arith, length-range_with_len 0 n) in omega (arith, get_or-range_with_len 0 n i 0 below))

-- what is found passes the test, and what holds of each element holds of it
pub IfSome-find : {X : Type 0} (test : X → Bool) (P : X → Type 0) (xs : List X) → All P xs → IfSome (find test xs) (λ x. (test x ≡ true) × P x)
IfSome-find test P [] all = tt
IfSome-find test P (x ∷ xs) all =
    elim (test x) as (λ b. test x ≡ b → IfSome (cond b (Some x) (find test xs)) (λ y. (test y ≡ true) × P y)) [
      | true ↦ λ passes. (passes, All-head P x xs all)
      | false ↦ λ _. IfSome-find test P xs (All-tail P x xs all)
    ] refl

-- something is found where an element passes the test
pub IsSome-find : {X : Type 0} (test : X → Bool) (x : X) (xs : List X) → In x xs → test x ≡ true → IsSome (find test xs)
IsSome-find test x [] i passes = absurd i
IsSome-find test x (y ∷ xs) i passes =
    elim (test y) as (λ b. test y ≡ b → IsSome (cond b (Some y) (find test xs))) [
      | true ↦ λ _. search
      | false ↦ λ fails. elim i [
        | inl e ↦ absurd (false≢true (sym fails ∙ ap test (sym e) ∙ passes))
        | inr j ↦ IsSome-find test x xs j passes
      ]
    ] refl
