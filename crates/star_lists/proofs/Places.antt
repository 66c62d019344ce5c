-- The places of the elements that pass a test: one more element, and what stands there.
use Rattle.std.proofs.Common.{◌≡◌, ℕ, zero, suc, ◌+◌, ◌<◌, Bool, true, false, cond, List, [], ◌∷◌, ◌++◌, Option, Some, None, length, refl, sym, ap, ◌∙◌, subst, filter, arith, take, get_or, append_assoc, length-append}
use Rattle.std.proofs.lemmas.List.{take_more, length-take-le}
use Rattle.std.proofs.lemmas.Option.{same_Some, none-some}
use Rattle.std.specs.List.{filter_map, cons_option, slice_get, list_any}
use Rattle.std.specs.Option.{option_map}
use Rattle.std.specs.Prelude.{if◌then◌else◌}
use Rattle.std.proofs.lemmas.Bool.{or_parts}
use Rattle.star_lists.specs.Places.{places_from, places, place_of}

-- one more element adds its place where it passes
pub places_from_push : {X : Type 0} (j : ℕ) (test : X → Bool) (xs : List X) (x : X)
    → places_from j test (xs ++ x ∷ []) ≡ places_from j test xs ++ (if test x then (j + length xs) ∷ [] else [])
places_from_push j test [] x =
    elim (test x) as (λ b. (if b then j ∷ [] else []) ≡ (if b then (j + 0) ∷ [] else [])) [ true ↦ ap (λ n. n ∷ []) (omega arith) | false ↦ refl ]
places_from_push j test (y ∷ ys) x =
    let later : places_from (j + 1) test (ys ++ x ∷ []) ≡ places_from (j + 1) test ys ++ (if test x then (j + suc (length ys)) ∷ [] else []) =
    places_from_push (j + 1) test ys x ∙ ap (λ n. places_from (j + 1) test ys ++ (if test x then n ∷ [] else [])) (omega arith) in
    elim (test y) as (λ b. (if b then j ∷ places_from (j + 1) test (ys ++ x ∷ []) else places_from (j + 1) test (ys ++ x ∷ [])) ≡ (if b then j ∷ places_from (j + 1) test ys else places_from (j + 1) test ys) ++ (if test x then (j + suc (length ys)) ∷ [] else [])) [
      | true ↦ ap (λ l. j ∷ l) later
      | false ↦ later
    ]

-- with one more element that passes the test, or doesn't
pub places_more : {X : Type 0} (test : X → Bool) (xs ys : List X) (x : X) (b : Bool) → test x ≡ b → ys ≡ xs ++ x ∷ []
    → places test ys ≡ places test xs ++ (if b then length xs ∷ [] else [])
places_more test xs ys x b is e =
    let one : places_from 0 test ys ≡ places_from 0 test (xs ++ x ∷ []) = ap (places_from 0 test) e in
    let two : places_from 0 test (xs ++ x ∷ []) ≡ places_from 0 test xs ++ (if b then (0 + length xs) ∷ [] else []) =
    places_from_push 0 test xs x ∙ ap (λ t. places_from 0 test xs ++ (if t then (0 + length xs) ∷ [] else [])) is in
    let three : places_from 0 test xs ++ (if b then (0 + length xs) ∷ [] else []) ≡ places_from 0 test xs ++ (if b then length xs ∷ [] else []) =
    ap (λ n. places_from 0 test xs ++ (if b then n ∷ [] else [])) (omega arith) in
    one ∙ two ∙ three

-- a loop's step: the element at i is x
pub places_step : {X : Type 0} (test : X → Bool) (rows : List X) (i : ℕ) (x : X) (b : Bool) → i < length rows → x ≡ get_or rows i x
    → b ≡ test x → places test (take (i + 1) rows) ≡ places test (take i rows) ++ (if b then i ∷ [] else [])
places_step test rows i x b lt is known =
    let grown : take (i + 1) rows ≡ take i rows ++ x ∷ [] = take_more rows i x lt ∙ ap (λ y. take i rows ++ y ∷ []) (sym is) in
    let n : length (take i rows) ≡ i = length-take-le i rows (omega arith) in
    places_more test (take i rows) (take (i + 1) rows) x b (sym known) grown
    ∙ ap (λ k. places test (take i rows) ++ (if b then k ∷ [] else [])) n

-- no element passes
pub places_none : {X : Type 0} (i : ℕ) (test : X → Bool) (xs : List X) → list_any test xs ≡ false → places_from i test xs ≡ []
places_none i test [] h = refl
places_none i test (x ∷ xs) h =
    ap (λ b. if b then i ∷ places_from (i + 1) test xs else places_from (i + 1) test xs) (or_parts (test x) (list_any test xs) h).0
    ∙ places_none (i + 1) test xs (or_parts (test x) (list_any test xs) h).1

-- each place is that of an element
pub places_below : {X : Type 0} (i : ℕ) (test : X → Bool) (xs : List X) (k d : ℕ) → k < length (places_from i test xs)
    → get_or (places_from i test xs) k d < i + length xs
places_below i test [] k d h = absurd (omega (arith, h))
places_below i test (x ∷ ys) k d h =
    elim (test x) as (λ b. k < length (if b then i ∷ places_from (i + 1) test ys else places_from (i + 1) test ys) → get_or (if b then i ∷ places_from (i + 1) test ys else places_from (i + 1) test ys) k d < i + suc (length ys)) [
      | true ↦ elim k as (λ k. k < suc (length (places_from (i + 1) test ys)) → get_or (i ∷ places_from (i + 1) test ys) k d < i + suc (length ys)) [
        | zero ↦ λ h. omega arith
        | suc j ↦ λ h. omega (arith, places_below (i + 1) test ys j d (omega (arith, h)))
      ]
      | false ↦ λ h. omega (arith, places_below (i + 1) test ys k d h)
    ] h

-- the element behind a front
behind : {X : Type 0} (pre ys : List X) (x : X) → slice_get (pre ++ x ∷ ys) (length pre) ≡ Some x
behind [] ys x = refl
behind (p ∷ pre) ys x = behind pre ys x

-- what stands at the places are the elements that pass
pub elements_at_places : {X : Type 0} (pre xs : List X) (test : X → Bool) (i : ℕ) (all : List X) → i ≡ length pre → all ≡ pre ++ xs
    → filter_map (slice_get all) (places_from i test xs) ≡ filter test xs
elements_at_places pre [] test i all n is = refl
elements_at_places pre (x ∷ ys) test i all n is =
    let moved : all ≡ (pre ++ x ∷ []) ++ ys = is ∙ sym (append_assoc pre (x ∷ []) ys) in
    let more : i + 1 ≡ length (pre ++ x ∷ []) = omega (arith, n, length-append pre (x ∷ [])) in
    let rest : filter_map (slice_get all) (places_from (i + 1) test ys) ≡ filter test ys = elements_at_places (pre ++ x ∷ []) ys test (i + 1) all more moved in
    let here : slice_get all i ≡ Some x = (λ k. slice_get (is k) (n k)) ∙ behind pre ys x in
    elim (test x) as (λ b. filter_map (slice_get all) (if b then i ∷ places_from (i + 1) test ys else places_from (i + 1) test ys) ≡ cond b (x ∷ filter test ys) (filter test ys)) [
      | true ↦ λ k. cons_option (here k) (rest k)
      | false ↦ rest
    ]

-- what an element adds to the place of a later one
abbrev later : Option ℕ → Option ℕ
later o = option_map suc o

-- the first place, or else the second
abbrev pub place_or : Option ℕ → Option ℕ → Option ℕ
place_or None o = o
place_or (Some p) o = Some p

pub or_none : (o : Option ℕ) → place_or o None ≡ o
or_none None = refl
or_none (Some p) = refl

shifted : (o : Option ℕ) (b : Bool) (n : ℕ)
    → later (place_or o (if b then Some n else None)) ≡ place_or (later o) (if b then Some (suc n) else None)
shifted None true n = refl
shifted None false n = refl
shifted (Some p) b n = refl

-- the place is below the number of elements
pub place_below : {X : Type 0} (test : X → Bool) (xs : List X) (p : ℕ) → place_of test xs ≡ Some p → p < length xs
place_below test [] p e = absurd (none-some p e)
place_below test (x ∷ xs) p e =
    elim (test x) as (λ b. (if b then Some 0 else later (place_of test xs)) ≡ Some p → p < suc (length xs)) [
      | true ↦ λ h. subst (λ n. n < suc (length xs)) (same_Some 0 p h) (omega arith)
      | false ↦ λ h. elim (place_of test xs) as (λ o. place_of test xs ≡ o → later o ≡ Some p → p < suc (length xs)) [
        | None ↦ λ found h. absurd (none-some p h)
        | Some q ↦ λ found h. subst (λ n. n < suc (length xs)) (same_Some (suc q) p h) (omega (arith, place_below test xs q found))
      ] refl h
    ] e

-- the place after one more element
pub place_last : {X : Type 0} (test : X → Bool) (xs : List X) (x : X)
    → place_of test (xs ++ x ∷ []) ≡ place_or (place_of test xs) (if test x then Some (length xs) else None)
place_last test [] x = refl
place_last test (y ∷ ys) x =
    elim (test y) as (λ b. (if b then Some 0 else later (place_of test (ys ++ x ∷ []))) ≡ place_or (if b then Some 0 else later (place_of test ys)) (if test x then Some (suc (length ys)) else None)) [
      | true ↦ refl
      | false ↦ ap later (place_last test ys x) ∙ shifted (place_of test ys) (test x) (length ys)
    ]
