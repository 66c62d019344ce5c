-- The elements of a list, gathered by what they are the same as: each test passes as often.
use Rattle.std.proofs.Common.{◌≡◌, ◌+◌, Bool, true, false, cond, not, ◌||◌, List, [], ◌∷◌, ◌++◌, inl, refl, sym, ap, ◌∙◌, filter, length, length-append, arith}
use Rattle.std.specs.List.{flat_map, list_any}
use Rattle.std.proofs.lemmas.List.Elements.{filter-append}
use Rattle.std.proofs.lemmas.Bool.{or_parts}
use Rattle.star_lists.proofs.Elements.{In, from_filter}
use Rattle.star_lists.proofs.FirstOnes.{Apart}

-- those that pass the one test, and those that don't
halves : {X : Type 0} (p q : X → Bool) (xs : List X)
    → length (filter p xs) ≡ length (filter p (filter q xs)) + length (filter p (filter (λ x. not (q x)) xs))
halves p q [] = refl
halves p q (x ∷ xs) =
    let rest = halves p q xs in
    elim (q x) as (λ b. length (filter p (x ∷ xs)) ≡ length (filter p (cond b (x ∷ filter q xs) (filter q xs))) + length (filter p (cond (not b) (x ∷ filter (λ x. not (q x)) xs) (filter (λ x. not (q x)) xs)))) [
      | true ↦ elim (p x) as (λ c. length (cond c (x ∷ filter p xs) (filter p xs)) ≡ length (cond c (x ∷ filter p (filter q xs)) (filter p (filter q xs))) + length (filter p (filter (λ x. not (q x)) xs))) [
        | true ↦ omega arith
        | false ↦ rest
      ]
      | false ↦ elim (p x) as (λ c. length (cond c (x ∷ filter p xs) (filter p xs)) ≡ length (filter p (filter q xs)) + length (cond c (x ∷ filter p (filter (λ x. not (q x)) xs)) (filter p (filter (λ x. not (q x)) xs)))) [
        | true ↦ omega arith
        | false ↦ rest
      ]
    ]

module _ {X : Type 0} (same : X → X → Bool) (through : (x y z : X) → same x z ≡ true → same y z ≡ true → same x y ≡ true) where
  -- the elements that are the same as each of these, in the order of these
  abbrev pub gathered : List X → List X → List X
  gathered firsts xs = flat_map (λ f. filter (same f) xs) firsts

  abbrev others : X → List X → List X
  others f xs = filter (λ x. not (same f x)) xs

  -- what is the same as g stays where what is the same as f is taken away
  stays : (f g : X) → same f g ≡ false → (xs : List X) → filter (same g) xs ≡ filter (same g) (others f xs)
  stays f g apart [] = refl
  stays f g apart (x ∷ xs) =
      elim (same f x) as (λ b. same f x ≡ b → cond (same g x) (x ∷ filter (same g) xs) (filter (same g) xs) ≡ filter (same g) (cond (not b) (x ∷ others f xs) (others f xs))) [
        | true ↦ λ fx. elim (same g x) as (λ c. same g x ≡ c → cond c (x ∷ filter (same g) xs) (filter (same g) xs) ≡ filter (same g) (others f xs)) [
          | true ↦ λ gx. absurd (no (through f g x fx gx) apart)
          | false ↦ λ _. stays f g apart xs
        ] refl
        | false ↦ λ _. ap (λ l. cond (same g x) (x ∷ l) l) (stays f g apart xs)
      ] refl
    where
      no : same f g ≡ true → same f g ≡ false → ⊥
      no p q = cc

  stay_all : (f : X) (gs : List X) → list_any (same f) gs ≡ false → (xs : List X) → gathered gs xs ≡ gathered gs (others f xs)
  stay_all f [] apart xs = refl
  stay_all f (g ∷ gs) apart xs =
      λ i. stays f g (or_parts (same f g) (list_any (same f) gs) apart).0 xs i ++ stay_all f gs (or_parts (same f g) (list_any (same f) gs) apart).1 xs i

  -- an element that isn't the same as f is the same as another
  other_one : (f : X) (fs : List X) (z : X) → list_any (λ f. same f z) (f ∷ fs) ≡ true → not (same f z) ≡ true
      → list_any (λ f. same f z) fs ≡ true
  other_one f fs z here apart =
      elim (same f z) as (λ b. (b || list_any (λ f. same f z) fs) ≡ true → not b ≡ true → list_any (λ f. same f z) fs ≡ true) [
        | true ↦ λ h a. absurd (let clash : false ≡ true = a in cc)
        | false ↦ λ h a. h
      ] here apart

  nothing_left : (xs : List X) → ((z : X) → In z xs → list_any (λ f. same f z) [] ≡ true) → xs ≡ []
  nothing_left [] known = refl
  nothing_left (x ∷ xs) known = absurd (let clash : false ≡ true = known x (inl refl) in cc)

  -- where no two of these are the same, and each element is the same as one
  pub gathered_often : (firsts : List X) → Apart same firsts → (xs : List X) → ((z : X) → In z xs → list_any (λ f. same f z) firsts ≡ true)
      → (p : X → Bool)
      → length (filter p (gathered firsts xs)) ≡ length (filter p xs)
  gathered_often [] apart xs known p = sym (ap (λ l. length (filter p l)) (nothing_left xs known))
  gathered_often (f ∷ fs) apart xs known p =
      let rest = gathered_often fs apart.1 (others f xs) (λ z i. let h = from_filter (λ x. not (same f x)) xs z i in other_one f fs z (known z h.0) h.1) p in
      ap length (filter-append p (filter (same f) xs) (gathered fs xs))
      ∙ length-append (filter p (filter (same f) xs)) (filter p (gathered fs xs))
      ∙ ap (λ l. length (filter p (filter (same f) xs)) + length (filter p l)) (stay_all f fs apart.0 xs)
      ∙ ap (λ n. length (filter p (filter (same f) xs)) + n) rest
      ∙ sym (halves p (same f) xs)
