-- What functions make of lists: mapped lists, what passes a test, what a function gives, and the first ones.
use Rattle.std.proofs.Common.{◌≡◌, ℕ, ◌+◌, ◌<◌, Bool, true, false, cond, not, ◌&&◌, List, [], ◌∷◌, ◌++◌, Option, Some, None, inl, inr, refl, sym, ap, ◌∙◌, map, filter, length, All, get_or, take, append_assoc, append-nil}
use Rattle.std.specs.Prelude.{if◌then◌else◌}
use Rattle.std.specs.List.{flat_map, filter_map, cons_option}
use Rattle.std.specs.Option.{option_map}
use Rattle.std.proofs.lemmas.List.{take_more}
use Rattle.std.proofs.lemmas.List.Elements.{All-head, All-tail, All-cons, All-nil, All-filter}
use Rattle.star_lists.specs.FirstOnes.{first_ones}
use Rattle.star_lists.proofs.Elements.{In}

-- one more element
pub flat_map-push : {X Y : Type 0} (f : X → List Y) (xs : List X) (x : X) → flat_map f (xs ++ x ∷ []) ≡ flat_map f xs ++ f x
flat_map-push f [] x = append-nil (f x)
flat_map-push f (y ∷ xs) x = ap (λ l. f y ++ l) (flat_map-push f xs x) ∙ sym (append_assoc (f y) (flat_map f xs) (f x))

-- a loop's step: the element at i is x
pub take-step : {X : Type 0} (xs : List X) (i : ℕ) (x : X) → i < length xs → x ≡ get_or xs i x → take (i + 1) xs ≡ take i xs ++ x ∷ []
take-step xs i x lt is = take_more xs i x lt ∙ ap (λ y. take i xs ++ y ∷ []) (sym is)

-- ---- what passes a test

-- what is kept of what f made is what f makes of what is kept
pub filter-map : {X Y : Type 0} (p : Y → Bool) (q : X → Bool) (f : X → Y) → ((x : X) → p (f x) ≡ q x) → (xs : List X)
    → filter p (map f xs) ≡ map f (filter q xs)
filter-map p q f h [] = refl
filter-map p q f h (x ∷ xs) =
    ap (λ b. cond b (f x ∷ filter p (map f xs)) (filter p (map f xs))) (h x)
    ∙ step (q x) (filter-map p q f h xs)
  where
    step : (b : Bool) → filter p (map f xs) ≡ map f (filter q xs)
        → cond b (f x ∷ filter p (map f xs)) (filter p (map f xs)) ≡ map f (cond b (x ∷ filter q xs) (filter q xs))
    step true e = ap (λ ys. f x ∷ ys) e
    step false e = e

-- tests that answer alike on the elements
pub filter_agree_in : {X : Type 0} (p q : X → Bool) (xs : List X) → ((x : X) → In x xs → p x ≡ q x) → filter p xs ≡ filter q xs
filter_agree_in p q [] h = refl
filter_agree_in p q (x ∷ xs) h =
    λ i. cond (h x (inl refl) i) (x ∷ filter_agree_in p q xs (λ y j. h y (inr j)) i) (filter_agree_in p q xs (λ y j. h y (inr j)) i)

-- no element passes
pub none_kept : {X : Type 0} (p : X → Bool) (xs : List X) → ((x : X) → In x xs → p x ≡ false) → filter p xs ≡ []
none_kept p [] h = refl
none_kept p (x ∷ xs) h = ap (λ b. cond b (x ∷ filter p xs) (filter p xs)) (h x (inl refl)) ∙ none_kept p xs (λ y i. h y (inr i))

-- two tests one after the other
pub filter_both : {X : Type 0} (p q : X → Bool) (xs : List X) → filter q (filter p xs) ≡ filter (λ x. p x && q x) xs
filter_both p q [] = refl
filter_both p q (x ∷ xs) =
    elim (p x) as (λ b. filter q (cond b (x ∷ filter p xs) (filter p xs)) ≡ cond (b && q x) (x ∷ filter (λ x. p x && q x) xs) (filter (λ x. p x && q x) xs)) [
      | true ↦ ap (λ l. cond (q x) (x ∷ l) l) (filter_both p q xs)
      | false ↦ filter_both p q xs
    ]

-- ---- what a function gives

-- what two functions make is one where they agree on what has P
pub filter_map-within : {X Y Z : Type 0} (P : X → Type 0) (f : Z → Option Y) (g : X → Z) (h : X → Option Y)
    → ((x : X) → P x → f (g x) ≡ h x) → (xs : List X) → All P xs → filter_map f (map g xs) ≡ filter_map h xs
filter_map-within P f g h e [] a = refl
filter_map-within P f g h e (x ∷ xs) a = λ i. cons_option (e x (All-head P x xs a) i) (filter_map-within P f g h e xs (All-tail P x xs a) i)

-- functions that give the same of each element
pub filter_map_agree_in : {X Y : Type 0} (p q : X → Option Y) (xs : List X) → ((x : X) → In x xs → p x ≡ q x)
    → filter_map p xs ≡ filter_map q xs
filter_map_agree_in p q [] h = refl
filter_map_agree_in p q (x ∷ xs) h = λ i. cons_option (h x (inl refl) i) (filter_map_agree_in p q xs (λ y j. h y (inr j)) i)

pub filter_map-none : {A B : Type 0} (xs : List A) → filter_map {Y = B} (λ x. None) xs ≡ []
filter_map-none [] = refl
filter_map-none (x ∷ xs) = filter_map-none xs

-- no element gives anything
pub none_made : {X Y : Type 0} (f : X → Option Y) (xs : List X) → ((x : X) → In x xs → f x ≡ None) → filter_map f xs ≡ []
none_made f xs h = filter_map_agree_in f (λ x. None) xs h ∙ filter_map-none xs

pub filter_map-of_map : {X Y Z : Type 0} (f : Y → Option Z) (g : X → Y) (xs : List X)
    → filter_map f (map g xs) ≡ filter_map (λ x. f (g x)) xs
filter_map-of_map f g [] = refl
filter_map-of_map f g (x ∷ xs) = ap (cons_option (f (g x))) (filter_map-of_map f g xs)

pub map-filter_map : {X Y Z : Type 0} (g : Y → Z) (f : X → Option Y) (xs : List X)
    → map g (filter_map f xs) ≡ filter_map (λ x. option_map g (f x)) xs
map-filter_map g f [] = refl
map-filter_map g f (x ∷ xs) =
    elim (f x) as (λ o. map g (cons_option o (filter_map f xs)) ≡ cons_option (option_map g o) (filter_map (λ x. option_map g (f x)) xs)) [
      | None ↦ map-filter_map g f xs
      | Some y ↦ ap (λ l. g y ∷ l) (map-filter_map g f xs)
    ]

-- what p gives of what f made is what g makes of what q gives
pub filter_map-map : {X Y Z W : Type 0} (p : Y → Option Z) (q : X → Option W) (f : X → Y) (g : W → Z)
    → ((x : X) → p (f x) ≡ option_map g (q x)) → (xs : List X) → filter_map p (map f xs) ≡ map g (filter_map q xs)
filter_map-map p q f g h xs = filter_map-of_map p f xs ∙ (λ i. filter_map (λ x. h x i) xs) ∙ sym (map-filter_map g q xs)

-- what those give that pass a test
pub filter_map_if : {X Y : Type 0} (f : X → Option Y) (b : X → Bool) (h : X → Y) (xs : List X)
    → ((x : X) → In x xs → f x ≡ (if b x then Some (h x) else None)) → filter_map f xs ≡ map h (filter b xs)
filter_map_if f b h [] e = refl
filter_map_if f b h (x ∷ xs) e =
    let rest = filter_map_if f b h xs (λ y i. e y (inr i)) in
    ap (λ o. cons_option o (filter_map f xs)) (e x (inl refl))
    ∙ elim (b x) as (λ c. cons_option (if c then Some (h x) else None) (filter_map f xs) ≡ map h (cond c (x ∷ filter b xs) (filter b xs))) [
      | true ↦ ap (λ l. h x ∷ l) rest
      | false ↦ rest
    ]

-- ---- first ones

pub first_ones-map : {X Y : Type 0} (same : Y → Y → Bool) (alike : X → X → Bool) (f : X → Y) → ((a b : X) → same (f a) (f b) ≡ alike a b)
    → (xs : List X) → first_ones same (map f xs) ≡ map f (first_ones alike xs)
first_ones-map same alike f h [] = refl
first_ones-map same alike f h (x ∷ xs) =
    ap (λ ys. f x ∷ filter (λ y. not (same (f x) y)) ys) (first_ones-map same alike f h xs)
    ∙ ap (λ ys. f x ∷ ys) (filter-map (λ y. not (same (f x) y)) (λ y. not (alike x y)) f (λ y. ap not (h x y)) (first_ones alike xs))

-- what holds of all elements holds of the first ones
pub All-first_ones : {X : Type 0} (P : X → Type 0) (same : X → X → Bool) (xs : List X) → All P xs → All P (first_ones same xs)
All-first_ones P same [] h = All-nil P
All-first_ones P same (x ∷ xs) h =
    All-cons P x _ (All-head P x xs h) (All-filter (λ y. not (same x y)) P (first_ones same xs) (All-first_ones P same xs (All-tail P x xs h)))
