-- The elements of joined lists, of mapped lists, of what a list gives, of the first ones, and of a list in order.
use Rattle.std.proofs.Common.{◌≡◌, ℕ, ◌+◌, Bool, true, false, cond, not, List, [], ◌∷◌, ◌++◌, Option, Some, None, ◌⊎◌, inl, inr, refl, sym, ap, ◌∙◌, subst, map, filter}
use Rattle.std.specs.List.{filter_map, cons_option, list_any, AllByRecursion}
use Rattle.std.specs.declared.cmp.Ordering.{Ordering}
use Rattle.std.specs.declared.cmp.Ordering.TheVariants.{Less, Equal, Greater}
use Rattle.std.proofs.lemmas.Bool.{or_parts}
use Rattle.star_lists.specs.Ascending.{by_order, put_before, in_order}
use Rattle.star_lists.specs.FirstOnes.{first_ones}
use Rattle.star_lists.specs.Numbered.{numbered_from}
use Rattle.star_lists.proofs.Elements.{In, Pairwise, all_of, of_all, in_filter, from_filter}
use Rattle.star_lists.proofs.FirstOnes.{Apart, apart_firsts}

-- ---- joined lists

pub in_left : {X : Type 0} (z : X) (xs ys : List X) → In z xs → In z (xs ++ ys)
in_left z [] ys i = absurd i
in_left z (x ∷ xs) ys (inl e) = inl e
in_left z (x ∷ xs) ys (inr i) = inr (in_left z xs ys i)

pub in_right : {X : Type 0} (z : X) (xs ys : List X) → In z ys → In z (xs ++ ys)
in_right z [] ys i = i
in_right z (x ∷ xs) ys i = inr (in_right z xs ys i)

pub in_either : {X : Type 0} (z : X) (xs ys : List X) → In z (xs ++ ys) → In z xs ⊎ In z ys
in_either z [] ys i = inr i
in_either z (x ∷ xs) ys (inl e) = inl (inl e)
in_either z (x ∷ xs) ys (inr i) = elim (in_either z xs ys i) [ inl j ↦ inl (inr j) | inr j ↦ inr j ]

-- what holds of each two in both parts, and of one in each
pub pairwise_append : {X : Type 0} (R : X → X → Type 0) (xs ys : List X) → Pairwise R xs → Pairwise R ys
    → ((x y : X) → In x xs → In y ys → R x y) → Pairwise R (xs ++ ys)
pairwise_append R [] ys p q f = q
pairwise_append R (x ∷ xs) ys p q f = (
  all_of (R x) (xs ++ ys) (λ z i. elim (in_either z xs ys i) [ inl j ↦ of_all (R x) xs p.0 z j | inr j ↦ f x z (inl refl) j ]),
  pairwise_append R xs ys p.1 q (λ a b i j. f a b (inr i) j),
)

-- each two of those that pass
pub pairwise_filter : {X : Type 0} (R : X → X → Type 0) (q : X → Bool) (xs : List X) → Pairwise R xs → Pairwise R (filter q xs)
pairwise_filter R q [] h = tt
pairwise_filter R q (x ∷ xs) h = elim (q x) as (λ b. Pairwise R (cond b (x ∷ filter q xs) (filter q xs))) [
  | true ↦ (all_of (R x) (filter q xs) (λ z i. of_all (R x) xs h.0 z (from_filter q xs z i).0), pairwise_filter R q xs h.1)
  | false ↦ pairwise_filter R q xs h.1
]

-- ---- mapped lists

-- what an element is mapped to
pub in_map : {X Y : Type 0} (f : X → Y) (z : X) (xs : List X) → In z xs → In (f z) (map f xs)
in_map f z [] i = absurd i
in_map f z (x ∷ xs) (inl e) = inl (ap f e)
in_map f z (x ∷ xs) (inr i) = inr (in_map f z xs i)

pub from_map : {X Y : Type 0} (f : X → Y) (z : Y) (xs : List X) → In z (map f xs) → (x : X) × In x xs × (f x ≡ z)
from_map f z [] i = absurd i
from_map f z (x ∷ xs) (inl e) = (x, inl refl, sym e)
from_map f z (x ∷ xs) (inr i) = let r = from_map f z xs i in (r.0, inr r.1, r.2)

-- each two of what the elements give
pub pairwise_map : {X Y : Type 0} (R : X → X → Type 0) (S : Y → Y → Type 0) (f : X → Y) (xs : List X)
    → ((a b : X) → In a xs → In b xs → R a b → S (f a) (f b)) → Pairwise R xs → Pairwise S (map f xs)
pairwise_map R S f [] h p = tt
pairwise_map R S f (x ∷ xs) h p = (
  all_of (S (f x)) (map f xs) (λ z i. let m = from_map f z xs i in subst (S (f x)) m.2 (h x m.0 (inl refl) (inr m.1) (of_all (R x) xs p.0 m.0 m.1))),
  pairwise_map R S f xs (λ a b i j. h a b (inr i) (inr j)) p.1,
)

-- ---- what a list gives

-- what an element gives, where it gives something
pub from_filter_map : {X Y : Type 0} (f : X → Option Y) (xs : List X) (z : Y) → In z (filter_map f xs) → (x : X) × In x xs × (f x ≡ Some z)
from_filter_map f [] z i = absurd i
from_filter_map f (x ∷ xs) z i =
    let later : In z (filter_map f xs) → (y : _) × In y (x ∷ xs) × (f y ≡ Some z) = λ j. let r = from_filter_map f xs z j in (r.0, inr r.1, r.2) in
    elim (f x) as (λ o. f x ≡ o → In z (cons_option o (filter_map f xs)) → (y : _) × In y (x ∷ xs) × (f y ≡ Some z)) [
      | None ↦ λ e j. later j
      | Some y ↦ λ e j. elim j [ inl q ↦ (x, inl refl, e ∙ ap Some (sym q)) | inr k ↦ later k ]
    ] refl i

pub in_filter_map : {X Y : Type 0} (f : X → Option Y) (xs : List X) (x : X) (z : Y) → In x xs → f x ≡ Some z → In z (filter_map f xs)
in_filter_map f [] x z i e = absurd i
in_filter_map f (y ∷ xs) x z (inl q) e =
    let here : f y ≡ Some z = ap f (sym q) ∙ e in
    subst (λ o. In z (cons_option o (filter_map f xs))) (sym here) (inl refl)
in_filter_map f (y ∷ xs) x z (inr k) e =
    let later = in_filter_map f xs x z k e in
    elim (f y) as (λ o. In z (cons_option o (filter_map f xs))) [ None ↦ later | Some w ↦ inr later ]

-- what an element gives with its number
pub from_numbered : {X Y : Type 0} (i : ℕ) (f : ℕ → X → Y) (xs : List X) (z : Y) → In z (numbered_from i f xs)
    → (j : ℕ) × (x : X) × In x xs × (f j x ≡ z)
from_numbered i f [] z h = absurd h
from_numbered i f (x ∷ xs) z (inl e) = (i, x, inl refl, sym e)
from_numbered i f (x ∷ xs) z (inr k) = let r = from_numbered (i + 1) f xs z k in (r.0, r.1, inr r.2, r.3)

-- ---- first ones

none_passes : {X : Type 0} (p : X → Bool) (xs : List X) → list_any p xs ≡ false → AllByRecursion (λ x. p x ≡ false) xs
none_passes p [] h = tt
none_passes p (x ∷ xs) h = ((or_parts (p x) (list_any p xs) h).0, none_passes p xs (or_parts (p x) (list_any p xs) h).1)

each_apart : {X : Type 0} (same : X → X → Bool) (xs : List X) → Apart same xs → Pairwise (λ x y. same x y ≡ false) xs
each_apart same [] h = tt
each_apart same (x ∷ xs) h = (none_passes (same x) xs h.0, each_apart same xs h.1)

-- no two first ones are the same
pub firsts_differ : {X : Type 0} (same : X → X → Bool) (xs : List X) → Pairwise (λ x y. same x y ≡ false) (first_ones same xs)
firsts_differ same xs = each_apart same (first_ones same xs) (apart_firsts same xs)

-- each element is the same as a first one
pub first_one_for : {X : Type 0} (same : X → X → Bool) (itself : (x : X) → same x x ≡ true) (joins : (x y z : X) → same x y ≡ true → same y z ≡ true → same x z ≡ true) (z : X) (xs : List X) → In z xs → (x : X) × In x (first_ones same xs) × (same x z ≡ true)
first_one_for same itself joins z [] i = absurd i
first_one_for same itself joins z (x ∷ xs) (inl e) = (x, inl refl, ap (same x) e ∙ itself x)
first_one_for same itself joins z (x ∷ xs) (inr i) =
    let r = first_one_for same itself joins z xs i in
    elim (same x r.0) as (λ b. same x r.0 ≡ b → (w : _) × In w (first_ones same (x ∷ xs)) × (same w z ≡ true)) [
      | true ↦ λ f. (x, inl refl, joins x r.0 z f r.2)
      | false ↦ λ f. (r.0, inr (in_filter (λ y. not (same x y)) (first_ones same xs) r.0 r.1 (ap not f)), r.2)
    ] refl

-- ---- a list in order

pub from_put_before : {X : Type 0} (c : X → X → Ordering) (z x : X) (ys : List X) → In z (put_before c x ys) → In z (x ∷ ys)
from_put_before c z x [] i = i
from_put_before c z x (y ∷ ys) h =
    elim (c x y) as (λ r. In z (by_order r (x ∷ y ∷ ys) (x ∷ y ∷ ys) (y ∷ put_before c x ys)) → In z (x ∷ y ∷ ys)) [
      | Less ↦ λ i. i
      | Equal ↦ λ i. i
      | Greater ↦ λ i. elim i [
        | inl q ↦ inr (inl q)
        | inr j ↦ elim (from_put_before c z x ys j) [ inl q ↦ inl q | inr k ↦ inr (inr k) ]
      ]
    ] h

in_put_before : {X : Type 0} (c : X → X → Ordering) (z x : X) (ys : List X) → In z (x ∷ ys) → In z (put_before c x ys)
in_put_before c z x [] i = i
in_put_before c z x (y ∷ ys) i =
    elim (c x y) as (λ r. In z (by_order r (x ∷ y ∷ ys) (x ∷ y ∷ ys) (y ∷ put_before c x ys))) [
      | Less ↦ i
      | Equal ↦ i
      | Greater ↦ elim i [
        | inl q ↦ inr (in_put_before c z x ys (inl q))
        | inr j ↦ elim j [ inl q ↦ inl q | inr k ↦ inr (in_put_before c z x ys (inr k)) ]
      ]
    ]

-- the elements of a list in order are those of the list
pub from_in_order : {X : Type 0} (c : X → X → Ordering) (z : X) (xs : List X) → In z (in_order c xs) → In z xs
unfolding in_order
from_in_order c z [] i = i
from_in_order c z (x ∷ xs) i = elim (from_put_before c z x (in_order c xs) i) [ inl q ↦ inl q | inr j ↦ inr (from_in_order c z xs j) ]

pub in_in_order : {X : Type 0} (c : X → X → Ordering) (z : X) (xs : List X) → In z xs → In z (in_order c xs)
unfolding in_order
in_in_order c z [] i = i
in_in_order c z (x ∷ xs) i = in_put_before c z x (in_order c xs) (elim i [ inl q ↦ inl q | inr j ↦ inr (in_in_order c z xs j) ])
