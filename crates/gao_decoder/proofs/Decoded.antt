-- What the stopped sequence tells of the polynomial that is looked for.
use Rattle.std.proofs.Common.{ℕ, zero, suc, ◌+◌, ◌*◌, ◌/◌, ◌<◌, ◌≤◌, ◌≡◌, ◌∙◌, sym, ap, refl, arith, Bool, true, eqb, inl, inr, List, [], ◌∷◌, length, get_or, take, subst, get_or-take}
use Rattle.std.proofs.lemmas.Bool.{cases_lt, eqb-true, eq-eqb}
use Rattle.std.proofs.Math.ListN.{set, length-take}
use Rattle.field61.specs.Field.{field_product, AreElements}
use Rattle.field61.proofs.FieldLaws.{zero_product, one_product}
use Rattle.poly61.specs.Poly.{value, IsZero, HasDegreeBelow, SameCoefficients, PassesThrough, AreDistinct}
use Rattle.poly61.specs.Vanishing.{vanishing_of}
use Rattle.poly61.specs.Counts.{count_to}
use Rattle.poly61.proofs.Elements.{one_is_not_zero}
use Rattle.poly61.proofs.Places.{value_to, IsZeroFrom}
use Rattle.poly61.proofs.Counts.{count_to-grows, count_to-not}
use Rattle.poly61.proofs.Roots.{root_count, few_roots}
use Rattle.poly61.proofs.Lists.{coefficient_of, AreElements-bounded, value-places, value-same}
use Rattle.poly61.proofs.Values.{value-one, value-zero}
use Rattle.poly61.proofs.PolynomialLaws.{same_below}
use Rattle.poly61.proofs.Products.{vanishing_of-root, vanishing_of-top, vanishing_of-below}
use Rattle.gao_decoder.specs.Decoding.{agreement, IsDecoded, IsDecodedShort}
use Rattle.gao_decoder.specs.Problem.{Solves}
use Rattle.gao_decoder.specs.Sequence.{AreNeighbours, IsStopped}
use Rattle.gao_decoder.specs.declared.problem.Problem.{Problem}
use Rattle.gao_decoder.specs.Choosing.{nonzero_count}
use Rattle.gao_decoder.proofs.Counting.{agreement-count_to, agreement_same, nonzero_count-count_to}
use Rattle.gao_decoder.proofs.Forwards.{forwards_at, one_only}

-- w is not 0 at k points at least
pub nonzero_enough : (p : Problem) (s w : List ℕ) (e : ℕ) → AreElements p.xs.now → AreElements w → IsStopped p.xs.now p.ys.now s w p.k e → p.k ≤ nonzero_count w p.xs.now
nonzero_enough p s w e small w_elements stopped =
    let xs : List ℕ = p.xs.now in
    let n = length xs in
    let w_past : IsZeroFrom (coefficient_of w) (suc e) = λ i h. stopped.cofactor.above i (omega arith) in
    let few : root_count n (suc e) (coefficient_of w) (coefficient_of xs) ≤ e = few_roots n e (coefficient_of xs) (coefficient_of w) p.distinct (AreElements-bounded xs small)
    (AreElements-bounded w w_elements) stopped.cofactor.top in
    let roots : count_to n (λ j. eqb (value w (get_or xs j 0)) 0) ≤ root_count n (suc e) (coefficient_of w) (coefficient_of xs) = count_to-grows n _ _ (λ j _ t. eq-eqb _ 0 (sym (value-places (suc e) w (get_or xs j 0) w_past) ∙ eqb-true _ 0 t)) in
    omega (arith, few, roots, stopped.few, nonzero_count-count_to w xs, count_to-not n (λ j. eqb (value w (get_or xs j 0)) 0))

-- where w is not 0, the polynomial has the value y
abbrev pub PassesWhere : Problem → List ℕ → List ℕ → Type 0
PassesWhere p w f = (i : ℕ) → i < length p.xs.now → (value w (get_or p.xs.now i 0) ≡ 0 → ⊥) → value f (get_or p.xs.now i 0) ≡ get_or p.ys.now i 0

-- the polynomial that is looked for does
pub decoded_passes : (p : Problem) (s w f : List ℕ) (e : ℕ) → AreElements p.xs.now → AreElements p.ys.now → AreElements s → AreElements w
    → IsStopped p.xs.now p.ys.now s w p.k e → Solves f p → PassesWhere p w f
decoded_passes p s w f e xs_elements ys_elements s_elements w_elements stopped d i h w_nonzero =
    let xs : List ℕ = p.xs.now in
    let ys : List ℕ = p.ys.now in
    let k : ℕ = p.k in
    let n : ℕ = length xs in
    let s_places : ℕ = (n + k + 1) / 2 in
    let s_past : IsZeroFrom (coefficient_of s) s_places = λ j l. stopped.low j (omega arith) in
    let w_past : IsZeroFrom (coefficient_of w) (suc e) = λ j l. stopped.cofactor.above j (omega arith) in
    let s_value : (x : ℕ) → value s x ≡ value_to s_places (coefficient_of s) x = λ x. value-places s_places s x s_past in
    let w_value : (x : ℕ) → value w x ≡ value_to (suc e) (coefficient_of w) x = λ x. value-places (suc e) w x w_past in
    let f_value : (x : ℕ) → value f x ≡ value_to k (coefficient_of f) x = λ x. value-places k f x d.below in
    let tied : (j : ℕ) → j < n → value_to s_places (coefficient_of s) (coefficient_of xs j) ≡ field_product (value_to (suc e) (coefficient_of w) (coefficient_of xs j)) (coefficient_of ys j) = λ j l. sym (s_value (coefficient_of xs j)) ∙ stopped.tied j l ∙ ap (λ y. field_product y (coefficient_of ys j)) (w_value (coefficient_of xs j)) in
    let same : agreement f xs ys ≤ count_to n (λ j. eqb (value_to k (coefficient_of f) (coefficient_of xs j)) (coefficient_of ys j)) =
    rw (agreement-count_to f xs ys p.pairs) (count_to-grows n _ _ (λ j _ t. eq-eqb _ _ (sym (f_value (coefficient_of xs j)) ∙ eqb-true _ _ t))) in
    f_value (get_or xs i 0) ∙ forwards_at n k s_places e (coefficient_of xs) (coefficient_of ys) (coefficient_of s) (coefficient_of w) (coefficient_of f) p.distinct
    (AreElements-bounded xs xs_elements) (AreElements-bounded ys ys_elements) (AreElements-bounded s s_elements) (AreElements-bounded w w_elements)
    (AreElements-bounded f d.elements) tied s_past w_past d.below p.some p.threshold (omega arith) (omega (arith, stopped.few)) (omega (arith, same, d.agrees)) i h (λ z. w_nonzero (w_value (get_or xs i 0) ∙ z))

-- the polynomial 1, where the zero polynomial had room
pub set_one : (f : List ℕ) → IsZero f → 0 < length f → (get_or (set f 0 1) 0 0 ≡ 1) × HasDegreeBelow (set f 0 1) 1
set_one [] none room = absurd (omega arith)
set_one (c ∷ cs) none room = (refl, above)
  where
    above : HasDegreeBelow (1 ∷ cs) 1
    above zero past = absurd (omega arith)
    above (suc i) past = none (suc i)

-- where the sequence begins
pub first_neighbours : (xs ys r v s w : List ℕ) → AreElements ys → PassesThrough s xs ys → HasDegreeBelow s (length xs) → SameCoefficients r (vanishing_of xs) → IsZero v → get_or w 0 0 ≡ 1 → HasDegreeBelow w 1 → AreNeighbours xs ys r v s w (length xs) 0
first_neighbours xs ys r v s w ys_elements passes below same none one w_below = record {
  tied_upper = λ i within. value-same r (vanishing_of xs) (get_or xs i 0) same ∙ vanishing_of-root xs i within
      ∙ sym (ap (λ y. field_product y (get_or ys i 0)) (value-zero v (get_or xs i 0) none) ∙ zero_product (get_or ys i 0));
  tied_lower = λ i within. passes i within
      ∙ sym (ap (λ y. field_product y (get_or ys i 0)) (value-one w (get_or xs i 0) one w_below) ∙ one_product (get_or ys i 0) (AreElements-bounded ys ys_elements i));
  upper = record { top = λ z. one_is_not_zero _ (same (length xs) ∙ vanishing_of-top xs) z; above = λ i past. same i ∙ vanishing_of-below xs i (omega arith) };
  lower = below;
  lower_cofactor = record { top = λ z. one_is_not_zero _ one z; above = w_below };
  upper_cofactor = λ i _. none i;
  sum = omega arith;
}

-- what `choose` says of its candidate
abbrev pub IsOnly : Problem → List ℕ → List ℕ → Type 0
IsOnly p w g = (f : List ℕ) → AreElements f → HasDegreeBelow f p.k → PassesWhere p w f → SameCoefficients g f

-- the same polynomial agrees with as many points
pub decoded_enough : (xs ys g f : List ℕ) (k : ℕ) → HasDegreeBelow g k → ((i : ℕ) → get_or g i 0 ≡ get_or f i 0) → IsDecoded f xs ys k → length xs + k ≤ 2 * agreement g xs ys
decoded_enough xs ys g f k g_below e d = omega (arith, d.agrees, agreement_same g f xs ys (λ x. value-same g f x e))

-- so it is decoded too
pub decoded_again : (xs ys g f : List ℕ) (k : ℕ) → AreElements g → HasDegreeBelow g k → ((i : ℕ) → get_or g i 0 ≡ get_or f i 0) → IsDecoded f xs ys k → IsDecoded g xs ys k
decoded_again xs ys g f k g_elements g_below e d = record { elements = g_elements; below = g_below; agrees = decoded_enough xs ys g f k g_below e d }

-- a copy of what is decoded is decoded
pub decoded_copy : (xs ys g f : List ℕ) (k : ℕ) → AreElements g → ((i : ℕ) → get_or g i 0 ≡ get_or f i 0) → IsDecoded f xs ys k → IsDecoded g xs ys k
decoded_copy xs ys g f k g_elements e d = decoded_again xs ys g f k g_elements (λ i past. e i ∙ d.below i past) e d

-- so it is the candidate, which is decoded too
pub decoded_is : (p : Problem) (s w g f : List ℕ) (e : ℕ) → AreElements p.xs.now → AreElements p.ys.now → AreElements s → AreElements w → AreElements g
    → IsStopped p.xs.now p.ys.now s w p.k e → HasDegreeBelow g p.k → IsOnly p w g → Solves f p → Solves g p × SameCoefficients g f
decoded_is p s w g f e xs_elements ys_elements s_elements w_elements g_elements stopped below only d =
    let same = only f d.elements d.below (decoded_passes p s w f e xs_elements ys_elements s_elements w_elements stopped d) in
    (decoded_again p.xs.now p.ys.now g f p.k g_elements below same d, same)

-- what passes through k distinct points and is decoded is the only polynomial of degree below k through them
pub decoded_through : (some_xs some_ys xs ys g f : List ℕ) → AreElements some_xs → AreDistinct some_xs → AreElements g → HasDegreeBelow g (length some_xs) → PassesThrough g some_xs some_ys
    → IsDecoded f xs ys (length some_xs) → PassesThrough f some_xs some_ys → IsDecoded g xs ys (length some_xs)
decoded_through some_xs some_ys xs ys g f elements distinct g_elements g_below g_passes d f_passes =
    decoded_again xs ys g f (length some_xs) g_elements g_below
    (same_below g f (length some_xs) (coefficient_of some_xs) g_elements d.elements distinct (AreElements-bounded some_xs elements) g_below d.below (λ i within. g_passes i within ∙ sym (f_passes i within))) d

-- at most one polynomial is decoded
pub one_decoded : (f g xs ys : List ℕ) (k : ℕ) → AreElements xs → AreDistinct xs → length xs ≡ length ys → k ≤ length xs → IsDecoded f xs ys k → IsDecoded g xs ys k → SameCoefficients f g
one_decoded f g xs ys k xs_elements distinct pairs threshold f_decoded g_decoded i = elim (cases_lt i k) [
  | inl l ↦ one_only (length xs) k (coefficient_of xs) (coefficient_of ys) (coefficient_of f) (coefficient_of g) distinct (AreElements-bounded xs xs_elements) (AreElements-bounded f f_decoded.elements) (AreElements-bounded g g_decoded.elements) threshold (many f f_decoded) (many g g_decoded) i l
  | inr l ↦ f_decoded.below i l ∙ sym (g_decoded.below i l)
]
  where
    many : (h : List ℕ) → IsDecoded h xs ys k → length xs + k ≤ 2 * count_to (length xs) (λ j. eqb (value_to k (coefficient_of h) (coefficient_of xs j)) (coefficient_of ys j))
    many h d = let m : count_to (length xs) (λ j. eqb (value h (coefficient_of xs j)) (coefficient_of ys j)) ≤ count_to (length xs) (λ j. eqb (value_to k (coefficient_of h) (coefficient_of xs j)) (coefficient_of ys j)) = count_to-grows (length xs) _ _ (λ j _ t. eq-eqb _ _ (sym (value-places k h (coefficient_of xs j) d.below) ∙ eqb-true _ _ t)) in
        omega (arith, m, agreement-count_to h xs ys pairs, d.agrees)

-- the first k points as lists of their own
length-first : (xs : List ℕ) (k : ℕ) → k ≤ length xs → length (take k xs) ≡ k
length-first xs k within = omega (arith, length-take k xs)

pub short_of_first : (f xs ys : List ℕ) (k : ℕ) → k ≤ length xs → IsDecoded f xs ys (length (take k xs)) → PassesThrough f (take k xs) (take k ys) → IsDecodedShort f xs ys k
short_of_first f xs ys k within d passes = record {
  decoded = subst (λ n. IsDecoded f xs ys n) (length-first xs k within) d;
  passes = λ i less. ap (value f) (sym (get_or-take k xs i 0 less)) ∙ passes i (omega (arith, length-first xs k within)) ∙ get_or-take k ys i 0 less;
}

first_of_short : (f xs ys : List ℕ) (k : ℕ) → k ≤ length xs → IsDecodedShort f xs ys k → IsDecoded f xs ys (length (take k xs)) × PassesThrough f (take k xs) (take k ys)
first_of_short f xs ys k within short = (
  subst (λ n. IsDecoded f xs ys n) (sym (length-first xs k within)) short.decoded,
  λ i less. let below : i < k = omega (arith, length-first xs k within) in ap (value f) (get_or-take k xs i 0 below) ∙ short.passes i below ∙ sym (get_or-take k ys i 0 below),
)

-- what is decoded of the first points is found, and it is the only one
pub short_is_found : (f xs ys : List ℕ) (k : ℕ) (b : Bool) → k ≤ length xs → ((g : List ℕ) → IsDecoded g xs ys (length (take k xs)) → PassesThrough g (take k xs) (take k ys) → b ≡ true)
    → IsDecodedShort f xs ys k → b ≡ true
short_is_found f xs ys k b within complete short = let first = first_of_short f xs ys k within short in complete f first.0 first.1

pub short_only : (out f xs ys : List ℕ) (k : ℕ) → AreElements xs → AreDistinct xs → length xs ≡ length ys → k ≤ length xs → IsDecodedShort out xs ys k → IsDecodedShort f xs ys k → SameCoefficients out f
short_only out f xs ys k elements distinct pairs threshold found short = one_decoded out f xs ys k elements distinct pairs threshold found.decoded short.decoded
