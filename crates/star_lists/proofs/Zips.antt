-- Two lists, element by element.
use Rattle.std.proofs.Common.{All, map, ◌≡◌, ℕ, suc, ◌+◌, ◌<◌, List, [], ◌∷◌, ◌++◌, length, take, get_or, arith, sym, subst, ◌∙◌, Result, Ok, Err, IfOk, Vec, Global, vec_len}
use Rattle.std.specs.List.{AllZip}
use Rattle.std.specs.Prelude.{slice_get, IfSome}
use Rattle.std.proofs.lemmas.List.Elements.{All-head, All-tail}
use Rattle.star_lists.proofs.Mapped.{take-step}

-- from the same by index
pub AllZip-from_each : {A B : Type 0} (R : A → B → Type 0) (xs : List A) (ys : List B) → length ys ≡ length xs
    → ((i : ℕ) (d : B) → i < length xs → IfSome (slice_get xs i) (λ x. R x (get_or ys i d))) → AllZip R xs ys
AllZip-from_each R [] [] e h = tt
AllZip-from_each R [] (y ∷ ys) e h = absurd (omega arith)
AllZip-from_each R (x ∷ xs) [] e h = absurd (omega arith)
AllZip-from_each R (x ∷ xs) (y ∷ ys) e h =
    (h 0 y (omega arith), AllZip-from_each R xs ys (omega arith) (λ i d lt. h (suc i) d (omega arith)))

-- the answers to all questions, in order
pub AllZip-from_answers : {A B E : Type 0} (R : A → B → Type 0) (xs : List A) (r : Result (Vec B Global) E)
    → IfOk r (λ v. vec_len v ≡ length xs)
    → IfOk r (λ v. (i : ℕ) (d : B) → i < length xs → IfSome (slice_get xs i) (λ x. R x (get_or v.items i d)))
    → IfOk r (λ v. AllZip R xs v.items)
AllZip-from_answers R xs (Ok v) p q = AllZip-from_each R xs v.items (sym v.ok.0 ∙ p) q
AllZip-from_answers R xs (Err x) p q = tt

-- one more element of both
AllZip-push : {A B : Type 0} (R : A → B → Type 0) (xs : List A) (ys : List B) (x : A) (y : B) → AllZip R xs ys → R x y
    → AllZip R (xs ++ x ∷ []) (ys ++ y ∷ [])
AllZip-push R [] [] x y all here = (here, tt)
AllZip-push R [] (b ∷ ys) x y all here = absurd all
AllZip-push R (a ∷ xs) [] x y all here = absurd all
AllZip-push R (a ∷ xs) (b ∷ ys) x y all here = (all.0, AllZip-push R xs ys x y all.1 here)

-- the next element of the first list, with one more of the second
pub AllZip-take_more : {A B : Type 0} (R : A → B → Type 0) (xs : List A) (ys : List B) (i : ℕ) (x : A) (y : B) → i < length xs
    → x ≡ get_or xs i x → AllZip R (take i xs) ys → R x y → AllZip R (take (i + 1) xs) (ys ++ y ∷ [])
AllZip-take_more R xs ys i x y lt is all here =
    subst (λ l. AllZip R l (ys ++ y ∷ [])) (sym (take-step xs i x lt is)) (AllZip-push R (take i xs) ys x y all here)

-- lists that are made of one
pub AllZip-map : {X A B : Type 0} (R : A → B → Type 0) (f : X → A) (g : X → B) (xs : List X) → All (λ x. R (f x) (g x)) xs
    → AllZip R (map f xs) (map g xs)
AllZip-map R f g [] h = tt
AllZip-map R f g (x ∷ xs) h = (All-head (λ x. R (f x) (g x)) x xs h, AllZip-map R f g xs (All-tail (λ x. R (f x) (g x)) x xs h))
