-- Text that grows by one numbered item after the other.
use Rattle.std.proofs.Common.{◌≡◌, ◌∙◌, ℕ, ◌+◌, ◌<◌, List, [], ◌∷◌, ◌++◌, length, get_or, take, ap, sym, arith, append_assoc}
use Rattle.std.specs.List.{concat}
use Rattle.std.proofs.lemmas.List.{take_more, length-take, append-nil}
use Rattle.std.proofs.lemmas.List.Folds.{concat-append}
use Rattle.star_lists.specs.Numbered.{numbered_from}
use Rattle.star_lists.proofs.Numbered.{numbered_push}

concat_numbered-push : {X : Type 0} (f : ℕ → X → List ℕ) (xs : List X) (x : X) → concat (numbered_from 0 f (xs ++ x ∷ [])) ≡ concat (numbered_from 0 f xs) ++ f (length xs) x
concat_numbered-push f xs x =
    ap concat (numbered_push 0 f xs x ∙ ap (λ (n : ℕ). numbered_from 0 f xs ++ f n x ∷ []) {x = 0 + length xs} {y = length xs} (omega arith))
    ∙ concat-append (numbered_from 0 f xs) (f (length xs) x ∷ []) ∙ ap (λ (l : List ℕ). concat (numbered_from 0 f xs) ++ l) (append-nil (f (length xs) x))

-- item i is written after those before it
pub concat_numbered-take_more : {X : Type 0} (f : ℕ → X → List ℕ) (xs : List X) (i : ℕ) (d : X) (before text new : List ℕ) → i < length xs → text ≡ before ++ concat (numbered_from 0 f (take i xs)) → new ≡ text ++ f i (get_or xs i d) →
    new ≡ before ++ concat (numbered_from 0 f (take (i + 1) xs))
concat_numbered-take_more f xs i d before text new within so_far next =
    let x = get_or xs i d in
    let so_many : length (take i xs) ≡ i = omega (arith, length-take i xs) in
    let more : concat (numbered_from 0 f (take i xs ++ x ∷ [])) ≡ concat (numbered_from 0 f (take i xs)) ++ f i x =
    concat_numbered-push f (take i xs) x ∙ ap (λ (n : ℕ). concat (numbered_from 0 f (take i xs)) ++ f n x) so_many in
    next ∙ ap (λ (t : List ℕ). t ++ f i x) so_far ∙ append_assoc before (concat (numbered_from 0 f (take i xs))) (f i x)
    ∙ ap (λ (l : List ℕ). before ++ l) (sym more ∙ ap (λ l. concat (numbered_from 0 f l)) (sym (take_more xs i d within)))
