-- Looking for the first vector that differs.
use Rattle.std.proofs.Common.{◌≡◌, ◌∙◌, ℕ, ◌+◌, ◌<◌, ◌≤◌, Bool, true, false, List, length, get_or, drop, Some, None, Ok, Err, refl, ap, sym, subst, drop-cons, add-one}
use Rattle.std.specs.Prelude.{not, if◌then◌else◌}
use Rattle.std.specs.Str.{bytes_eq}
use Rattle.std.proofs.lemmas.List.{drop_all}
use Rattle.star_vectors.specs.declared.vectors.Vector.{Vector}
use Rattle.star_vectors.specs.declared.outcome.SelfTestError.TheVariants as error
use Rattle.star_vectors.specs.Vectors.{vectors}
use Rattle.star_vectors.specs.Comparison.{first_differing, outcome_of}

equal_if_not : (e : Bool) → false ≡ not e → e ≡ true
equal_if_not true h = refl
equal_if_not false h = absurd (cc)

differ_if_not : (e : Bool) → true ≡ not e → e ≡ false
differ_if_not true h = absurd (cc)
differ_if_not false h = refl

-- the first differing one from place i on, by the vector there
first_differing-drop : (vs : List Vector) (i : ℕ) (d : Vector) → i < length vs
    → first_differing (drop i vs) ≡ (if bytes_eq (get_or vs i d).got (get_or vs i d).wanted then first_differing (drop (i + 1) vs) else Some (get_or vs i d))
first_differing-drop vs i d within = rw (add-one, drop-cons vs i d) refl

-- the vector at place i doesn't differ
pub goes_on : (vs : List Vector) (i : ℕ) (d : Vector) → vs ≡ vectors → i < length vectors → first_differing vectors ≡ first_differing (drop i vectors)
    → false ≡ not (bytes_eq (get_or vs i d).got (get_or vs i d).wanted) → first_differing vectors ≡ first_differing (drop (i + 1) vectors)
goes_on vs i d are within before same =
    let equal : bytes_eq (get_or vectors i d).got (get_or vectors i d).wanted ≡ true =
    equal_if_not _ (subst (λ (xs : List Vector). false ≡ not (bytes_eq (get_or xs i d).got (get_or xs i d).wanted)) are same) in
    before ∙ first_differing-drop vectors i d within
    ∙ ap (λ (e : Bool). if e then first_differing (drop (i + 1) vectors) else Some (get_or vectors i d)) equal

-- the vector at place i differs, and is the first
pub stops : (vs : List Vector) (i : ℕ) (d : Vector) → vs ≡ vectors → i < length vectors → first_differing vectors ≡ first_differing (drop i vectors)
    → true ≡ not (bytes_eq (get_or vs i d).got (get_or vs i d).wanted)
    → Err (error.Vector (get_or vs i d).number (get_or vs i d).got (get_or vs i d).wanted) ≡ outcome_of (first_differing vectors)
stops vs i d are within before other =
    let differ : bytes_eq (get_or vectors i d).got (get_or vectors i d).wanted ≡ false =
    differ_if_not _ (subst (λ (xs : List Vector). true ≡ not (bytes_eq (get_or xs i d).got (get_or xs i d).wanted)) are other) in
    let first : first_differing vectors ≡ Some (get_or vectors i d) =
    before ∙ first_differing-drop vectors i d within
    ∙ ap (λ (e : Bool). if e then first_differing (drop (i + 1) vectors) else Some (get_or vectors i d)) differ in
    ap (λ (xs : List Vector). outcome_of (Some (get_or xs i d))) are ∙ sym (ap outcome_of first)

-- no vector differs
pub none_differs : (i : ℕ) → length vectors ≤ i → first_differing vectors ≡ first_differing (drop i vectors) → Ok (record { count = length vectors }) ≡ outcome_of (first_differing vectors)
none_differs i end before =
    let none : first_differing vectors ≡ None = before ∙ ap first_differing (drop_all i vectors end) in
    sym (ap outcome_of none)
