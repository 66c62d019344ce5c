-- The elements of a list, those that pass a test, and what holds of all of them.
use Rattle.std.proofs.Common.{◌≡◌, ℕ, zero, suc, ◌<◌, ◌≤◌, arith, Bool, true, false, cond, ◌&&◌, ◌||◌, List, [], ◌∷◌, ◌⊎◌, inl, inr, Option, None, Some, length, refl, sym, ap, ◌∙◌, subst, map, filter, get_or}
use Rattle.std.proofs.lemmas.Bool.{false≢true, or_parts, or_right}
use Rattle.std.specs.List.{AllByRecursion, Contains, cons_option, filter_map, list_all, list_any}
use Rattle.std.specs.Cmp.{both_ways, first_so, second_so}

-- x is an element
abbrev pub In : {X : Type 0} → X → List X → Type 0
In x [] = ⊥
In x (y ∷ ys) = (x ≡ y) ⊎ In x ys

-- an element has a place
pub in_from_Contains : {X : Type 0} (xs : List X) (x : X) → Contains xs x → In x xs
in_from_Contains [] x h = absurd (omega (arith, h.1))
in_from_Contains (y ∷ ys) x (zero, lt, is) = inl (sym is)
in_from_Contains (y ∷ ys) x (suc k, lt, is) = inr (in_from_Contains ys x (k, omega arith, is))

pub Contains-from_in : {X : Type 0} (xs : List X) (x : X) → In x xs → Contains xs x
Contains-from_in [] x i = absurd i
Contains-from_in (y ∷ ys) x (inl e) = (0, omega arith, sym e)
Contains-from_in (y ∷ ys) x (inr i) = let h = Contains-from_in ys x i in (suc h.0, omega (arith, h.1), h.2)

-- a test of all of the elements
pub all_true : {X : Type 0} (p : X → Bool) (xs : List X) → list_all p xs ≡ true → (z : X) → In z xs → p z ≡ true
all_true p [] h z i = absurd i
all_true p (x ∷ xs) h z (inl e) = ap p e ∙ first_so (p x) (list_all p xs) h
all_true p (x ∷ xs) h z (inr i) = all_true p xs (second_so (p x) (list_all p xs) h) z i

pub true_all : {X : Type 0} (p : X → Bool) (xs : List X) → ((z : X) → In z xs → p z ≡ true) → list_all p xs ≡ true
true_all p [] f = refl
true_all p (x ∷ xs) f = ap (λ b. b && list_all p xs) (f x (inl refl)) ∙ true_all p xs (λ z i. f z (inr i))

pub same_all : {X : Type 0} (p : X → Bool) (xs ys : List X) → ((z : X) → In z xs → In z ys) → ((z : X) → In z ys → In z xs)
    → list_all p xs ≡ list_all p ys
same_all p xs ys f g =
    both_ways (list_all p xs) (list_all p ys) (λ h. true_all p ys (λ z i. all_true p xs h z (g z i))) (λ h. true_all p xs (λ z i. all_true p ys h z (f z i)))

-- the elements that pass a test
pub in_filter : {X : Type 0} (p : X → Bool) (xs : List X) (z : X) → In z xs → p z ≡ true → In z (filter p xs)
in_filter p [] z i h = absurd i
in_filter p (x ∷ xs) z i h =
    elim (p x) as (λ b. p x ≡ b → In z (cond b (x ∷ filter p xs) (filter p xs))) [
      | true ↦ λ e. elim i [ inl q ↦ inl q | inr j ↦ inr (in_filter p xs z j h) ]
      | false ↦ λ e. elim i [ inl q ↦ absurd (false≢true (sym e ∙ ap p (sym q) ∙ h)) | inr j ↦ in_filter p xs z j h ]
    ] refl

pub from_filter : {X : Type 0} (p : X → Bool) (xs : List X) (z : X) → In z (filter p xs) → In z xs × (p z ≡ true)
from_filter p [] z i = absurd i
from_filter p (x ∷ xs) z i =
    elim (p x) as (λ b. p x ≡ b → In z (cond b (x ∷ filter p xs) (filter p xs)) → In z (x ∷ xs) × (p z ≡ true)) [
      | true ↦ λ e i. elim i [ inl q ↦ (inl q, ap p q ∙ e) | inr j ↦ let h = from_filter p xs z j in (inr h.0, h.1) ]
      | false ↦ λ e i. let h = from_filter p xs z i in (inr h.0, h.1)
    ] refl i

-- what holds of each element
pub all_of : {X : Type 0} (P : X → Type 0) (xs : List X) → ((z : X) → In z xs → P z) → AllByRecursion P xs
all_of P [] f = tt
all_of P (x ∷ xs) f = (f x (inl refl), all_of P xs (λ z i. f z (inr i)))

-- the element at a place
pub in_at : {X : Type 0} (xs : List X) (k : ℕ) (d : X) → k < length xs → In (get_or xs k d) xs
in_at [] k d h = absurd (omega (arith, h))
in_at (x ∷ xs) zero d h = inl refl
in_at (x ∷ xs) (suc k) d h = inr (in_at xs k d (omega (arith, h)))

pub of_all : {X : Type 0} (P : X → Type 0) (xs : List X) → AllByRecursion P xs → (z : X) → In z xs → P z
of_all P [] h z i = absurd i
of_all P (x ∷ xs) h z (inl e) = subst P (sym e) h.0
of_all P (x ∷ xs) h z (inr i) = of_all P xs h.1 z i

-- R holds of each two elements, the earlier one first
abbrev pub Pairwise : {X : Type 0} → (X → X → Type 0) → List X → Type 0
Pairwise R [] = Unit {0}
Pairwise R (x ∷ xs) = AllByRecursion (R x) xs × Pairwise R xs

-- the elements that pass are no more
pub filter_fewer : {X : Type 0} (p : X → Bool) (xs : List X) → length (filter p xs) ≤ length xs
filter_fewer p [] = omega arith
filter_fewer p (x ∷ xs) =
    elim (p x) as (λ b. length (cond b (x ∷ filter p xs) (filter p xs)) ≤ suc (length xs)) [
      | true ↦ omega (arith, filter_fewer p xs)
      | false ↦ omega (arith, filter_fewer p xs)
    ]

-- nor are what the elements give, each one or nothing
pub filter_map_fewer : {X Y : Type 0} (f : X → Option Y) (xs : List X) → length (filter_map f xs) ≤ length xs
filter_map_fewer f [] = omega arith
filter_map_fewer f (x ∷ xs) =
    elim (f x) as (λ o. length (cons_option o (filter_map f xs)) ≤ suc (length xs)) [
      | None ↦ omega (arith, filter_map_fewer f xs)
      | Some y ↦ omega (arith, filter_map_fewer f xs)
    ]

-- they are all where each passes
pub filter_whole : {X : Type 0} (p : X → Bool) (xs : List X) → ((x : X) → In x xs → p x ≡ true) → filter p xs ≡ xs
filter_whole p [] h = refl
filter_whole p (x ∷ xs) h =
    ap (λ b. cond b (x ∷ filter p xs) (filter p xs)) (h x (inl refl)) ∙ ap (λ l. x ∷ l) (filter_whole p xs (λ y i. h y (inr i)))

-- a test that no element passes
pub none_filtered : {X : Type 0} (p q : X → Bool) (xs : List X) → list_any p xs ≡ false → list_any p (filter q xs) ≡ false
none_filtered p q [] h = refl
none_filtered p q (x ∷ xs) h =
    elim (q x) as (λ b. list_any p (cond b (x ∷ filter q xs) (filter q xs)) ≡ false) [
      | true ↦ λ i. (or_parts (p x) (list_any p xs) h).0 i || none_filtered p q xs (or_parts (p x) (list_any p xs) h).1 i
      | false ↦ none_filtered p q xs (or_parts (p x) (list_any p xs) h).1
    ]

-- a test that an element passes
pub any_in : {X : Type 0} (p : X → Bool) (xs : List X) (z : X) → In z xs → p z ≡ true → list_any p xs ≡ true
any_in p [] z i h = absurd i
any_in p (x ∷ xs) z (inl e) h = ap (λ b. b || list_any p xs) (ap p (sym e) ∙ h)
any_in p (x ∷ xs) z (inr i) h = or_right (p x) (list_any p xs) (any_in p xs z i h)

pub list_any-map : {A B : Type 0} (p : B → Bool) (q : A → Bool) (f : A → B) → ((a : A) → p (f a) ≡ q a) → (xs : List A)
    → list_any p (map f xs) ≡ list_any q xs
list_any-map p q f h [] = refl
list_any-map p q f h (x ∷ xs) = λ i. h x i || list_any-map p q f h xs i
