-- How many elements pass a test: lists in which each test passes equally often, and first ones.
use Rattle.std.proofs.Common.{◌≡◌, suc, ◌<◌, ◌≤◌, Bool, true, false, cond, not, List, [], ◌∷◌, Option, Some, None, inl, inr, refl, sym, ap, ◌∙◌, map, filter, length, arith, ℕ, zero, ◌+◌, ◌++◌, length-append}
use Rattle.std.proofs.lemmas.List.{length-map, map-append}
use Rattle.std.proofs.lemmas.List.Elements.{filter-append}
use Rattle.std.specs.Cmp.{IsTotalOrder}
use Rattle.std.specs.List.{filter_map, cons_option, list_any}
use Rattle.std.specs.declared.cmp.Ordering.{Ordering}
use Rattle.star_lists.specs.Ascending.{in_order}
use Rattle.star_lists.specs.Numbered.{joined_below}
use Rattle.std.proofs.lemmas.Bool.{or_parts}
use Rattle.star_lists.proofs.Elements.{In, in_filter, filter_whole, from_filter}
use Rattle.star_lists.proofs.FirstOnes.{Apart}
use Rattle.star_lists.specs.Elements.{EquallyOften}
use Rattle.star_lists.proofs.Mapped.{filter-map}
use Rattle.star_lists.proofs.InOrder.{filter-in_order, length-in_order}

pub length-filter-map : {X Y : Type 0} (p : Y → Bool) (f : X → Y) (xs : List X)
    → length (filter p (map f xs)) ≡ length (filter (λ x. p (f x)) xs)
length-filter-map p f xs = ap length (filter-map p (λ x. p (f x)) f (λ x. refl) xs) ∙ length-map (filter (λ x. p (f x)) xs) f

some_passes : {X : Type 0} → (X → Bool) → Option X → Bool
some_passes p None = false
some_passes p (Some x) = p x

length-filter_map : {X Y : Type 0} (p : Y → Bool) (f : X → Option Y) (xs : List X)
    → length (filter p (filter_map f xs)) ≡ length (filter (λ x. some_passes p (f x)) xs)
unfolding some_passes
length-filter_map p f [] = refl
length-filter_map p f (x ∷ xs) =
    let rest = length-filter_map p f xs in
    elim (f x) as (λ o. length (filter p (cons_option o (filter_map f xs))) ≡ length (cond (some_passes p o) (x ∷ filter (λ x. some_passes p (f x)) xs) (filter (λ x. some_passes p (f x)) xs))) [
      | None ↦ rest
      | Some y ↦ elim (p y) as (λ b. length (cond b (y ∷ filter p (filter_map f xs)) (filter p (filter_map f xs))) ≡ length (cond b (x ∷ filter (λ x. some_passes p (f x)) xs) (filter (λ x. some_passes p (f x)) xs))) [
        | true ↦ ap suc rest
        | false ↦ rest
      ]
    ]

-- what equally many give stands equally often
pub often_filter_map : {X Y : Type 0} (f : X → Option Y) (xs ys : List X) → EquallyOften xs ys
    → EquallyOften (filter_map f xs) (filter_map f ys)
often_filter_map f xs ys h p = length-filter_map p f xs ∙ h (λ x. some_passes p (f x)) ∙ sym (length-filter_map p f ys)

-- joined lists
pub often_append : {X : Type 0} (xs ys us vs : List X) → EquallyOften xs us → EquallyOften ys vs → EquallyOften (xs ++ ys) (us ++ vs)
often_append xs ys us vs h k p =
    ap length (filter-append p xs ys)
    ∙ length-append (filter p xs) (filter p ys)
    ∙ (λ i. h p i + k p i)
    ∙ sym (length-append (filter p us) (filter p vs))
    ∙ sym (ap length (filter-append p us vs))

pub often_below : {X Y : Type 0} (t : X → Y) (f g : ℕ → List X) → ((l : ℕ) → EquallyOften (map t (f l)) (map t (g l))) → (n : ℕ)
    → EquallyOften (map t (joined_below f n)) (map t (joined_below g n))
often_below t f g h zero p = refl
often_below t f g h (suc n) p =
    ap (λ l. length (filter p l)) (map-append t (joined_below f n) (f n))
    ∙ often_append (map t (joined_below f n)) (map t (f n)) (map t (joined_below g n)) (map t (g n)) (often_below t f g h n) (h n) p
    ∙ ap (λ l. length (filter p l)) (sym (map-append t (joined_below g n) (g n)))

-- what is made of a list stands equally often in what is made of the list in order
pub often_in_order : {X Y : Type 0} (c : X → X → Ordering) → IsTotalOrder c → (t : X → Y) (xs : List X)
    → EquallyOften (map t (in_order c xs)) (map t xs)
often_in_order c total t xs p =
    length-filter-map p t (in_order c xs)
    ∙ ap length (filter-in_order c total (λ x. p (t x)) xs)
    ∙ length-in_order c (filter (λ x. p (t x)) xs)
    ∙ sym (length-filter-map p t xs)

pub ordered_often : {X Y : Type 0} (c : X → X → Ordering) → IsTotalOrder c → (t : X → Y) (xs ys : List X)
    → EquallyOften (map t xs) (map t ys) → EquallyOften (map t (in_order c xs)) (map t (in_order c ys))
ordered_often c total t xs ys h p = often_in_order c total t xs p ∙ h p ∙ sym (often_in_order c total t ys p)

-- the same of the two lists the other way round
pub turned_often : {X : Type 0} (xs ys : List X) → EquallyOften xs ys → EquallyOften ys xs
turned_often xs ys h p = sym (h p)

-- and the lists are equally long
pub equally_long : {X : Type 0} (xs ys : List X) → EquallyOften xs ys → length xs ≡ length ys
equally_long xs ys h =
    let all : (l : List _) → length (filter (λ x. true) l) ≡ length l = λ l. ap length (filter_whole (λ x. true) l (λ x i. refl)) in
    sym (all xs) ∙ h (λ x. true) ∙ all ys

-- where one passes, one of the other list passes
pub other_passes : {X : Type 0} (xs ys : List X) → EquallyOften xs ys → (p : X → Bool) (x : X) → In x xs → p x ≡ true
    → (y : X) × In y ys × (p y ≡ true)
other_passes xs ys h p x i t = one (filter p ys) (λ y j. j) (omega (arith, h p, some (filter p xs) (in_filter p xs x i t)))
  where
    some : (l : List _) → In x l → 0 < length l
    some [] j = absurd j
    some (y ∷ l) j = omega arith

    one : (l : List _) → ((y : _) → In y l → In y (filter p ys)) → 0 < length l → (y : _) × In y ys × (p y ≡ true)
    one [] f less = absurd (omega arith)
    one (y ∷ l) f less = let r = from_filter p ys y (f y (inl refl)) in (y, r.0, r.1)

-- ---- first ones

module _ {X : Type 0} (same : X → X → Bool) (turned : (x y : X) → same x y ≡ true → same y x ≡ true) (joins : (x y z : X) → same x y ≡ true → same y z ≡ true → same x z ≡ true) (test : X → Bool) (respects : (x y : X) → same x y ≡ true → test x ≡ test y) where
  abbrev others : X → List X → List X
  others u vs = filter (λ y. not (same u y)) vs

  no_more : (u : X) (vs : List X) → length (filter test (others u vs)) ≤ length (filter test vs)
  no_more u [] = omega arith
  no_more u (v ∷ vs) =
      let rest = no_more u vs in
      elim (same u v) as (λ a. length (filter test (cond (not a) (v ∷ others u vs) (others u vs))) ≤ length (cond (test v) (v ∷ filter test vs) (filter test vs))) [
        | true ↦ elim (test v) as (λ b. length (filter test (others u vs)) ≤ length (cond b (v ∷ filter test vs) (filter test vs))) [ true ↦ omega arith | false ↦ rest ]
        | false ↦ elim (test v) as (λ b. length (cond b (v ∷ filter test (others u vs)) (filter test (others u vs))) ≤ length (cond b (v ∷ filter test vs) (filter test vs))) [ true ↦ omega arith | false ↦ rest ]
      ]

  one_less : (u w : X) (vs : List X) → In w vs → same u w ≡ true → test w ≡ true
      → suc (length (filter test (others u vs))) ≤ length (filter test vs)
  one_less u w [] i s t = absurd i
  one_less u w (v ∷ vs) (inl q) s t =
      let uv : same u v ≡ true = ap (same u) (sym q) ∙ s in
      let tv : test v ≡ true = ap test (sym q) ∙ t in
      let fewer : length (filter test (others u vs)) ≤ length (filter test vs) = no_more u vs in
      let left : length (filter test (others u (v ∷ vs))) ≡ length (filter test (others u vs)) = ap (λ b. length (filter test (cond (not b) (v ∷ others u vs) (others u vs)))) uv in
      let right : length (filter test (v ∷ vs)) ≡ suc (length (filter test vs)) = ap (λ b. length (cond b (v ∷ filter test vs) (filter test vs))) tv in
      omega arith
  one_less u w (v ∷ vs) (inr k) s t =
      let rest : suc (length (filter test (others u vs))) ≤ length (filter test vs) = one_less u w vs k s t in
      elim (same u v) as (λ a. suc (length (filter test (cond (not a) (v ∷ others u vs) (others u vs)))) ≤ length (cond (test v) (v ∷ filter test vs) (filter test vs))) [
        | true ↦ elim (test v) as (λ b. suc (length (filter test (others u vs))) ≤ length (cond b (v ∷ filter test vs) (filter test vs))) [ true ↦ omega arith | false ↦ rest ]
        | false ↦ elim (test v) as (λ b. suc (length (cond b (v ∷ filter test (others u vs)) (filter test (others u vs)))) ≤ length (cond b (v ∷ filter test vs) (filter test vs))) [ true ↦ omega arith | false ↦ rest ]
      ]

  not_like : (u : X) (us : List X) (a : X) → list_any (same u) us ≡ false → In a us → same u a ≡ false
  not_like u [] a h i = absurd i
  not_like u (x ∷ us) a h (inl q) = ap (same u) q ∙ (or_parts (same u x) (list_any (same u) us) h).0
  not_like u (x ∷ us) a h (inr k) = not_like u us a (or_parts (same u x) (list_any (same u) us) h).1 k

  -- elements of which no two are the same, each the same as one of the other list
  pub no_fewer : (us vs : List X) → Apart same us → ((u : X) → In u us → (v : X) × In v vs × (same u v ≡ true))
      → length (filter test us) ≤ length (filter test vs)
  no_fewer [] vs apart has = omega arith
  no_fewer (u ∷ us) vs apart has =
      let w = has u (inl refl) in
      let later : length (filter test us) ≤ length (filter test (others u vs)) =
      no_fewer us (others u vs) apart.1 (λ a i.
      let b = has a (inr i) in
      let free : same u b.0 ≡ false = elim (same u b.0) as (λ s. same u b.0 ≡ s → s ≡ false) [
        | true ↦ λ s. (let clash : true ≡ false = sym (joins u b.0 a s (turned a b.0 b.2)) ∙ not_like u us a apart.0 i in cc)
        | false ↦ λ s. refl
      ] refl in
      (b.0, in_filter (λ y. not (same u y)) vs b.0 b.1 (ap not free), b.2)) in
      elim (test u) as (λ t. test u ≡ t → length (cond t (u ∷ filter test us) (filter test us)) ≤ length (filter test vs)) [
        | true ↦ λ t. (let less : suc (length (filter test (others u vs))) ≤ length (filter test vs) = one_less u w.0 vs w.1 w.2 (sym (respects u w.0 w.2) ∙ t) in omega arith)
        | false ↦ λ t. (let less : length (filter test (others u vs)) ≤ length (filter test vs) = no_more u vs in omega arith)
      ] refl
