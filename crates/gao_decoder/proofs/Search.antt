-- The search through all polynomials of low degree finds what is decoded.
use Rattle.std.proofs.Common.{◌≡◌, ◌∙◌, ℕ, zero, suc, ◌+◌, ◌*◌, ◌<◌, ◌≤◌, ◌↔◌, Bool, true, false, List, [], ◌∷◌, inl, inr, Option, Some, None, IsSome, IsNone, IfSome, IsSomeAnd, MatchOption, length, map, refl, sym, ap, subst, arith}
use Rattle.std.specs.List.{All, find, range_with_len}
use Rattle.std.proofs.lemmas.Bool.{cases_lt, leb-true, le-leb, false≢true}
use Rattle.std.proofs.lemmas.Option.{IfSome_then}
use Rattle.std.proofs.lemmas.List.Elements.{All-nil, All-cons, All-head, All-tail, All-map, All-weaker, All-from_get_or}
use Rattle.std.proofs.lemmas.List.FromFn.{length-map-range_with_len, get_or-map-range_with_len}
use Rattle.field61.specs.Field.{AreElements}
use Rattle.field61.specs.declared.TheConstants.{MODULUS}
use Rattle.poly61.specs.Poly.{HasDegreeBelow, SameCoefficients, AreDistinct}
use Rattle.poly61.proofs.Lists.{coefficient_of, coefficient_of-past, AreElements-bounded, value-same}
use Rattle.gao_decoder.specs.Decoding.{agreement, IsDecoded}
use Rattle.gao_decoder.specs.Search.{polynomials_below, is_decoded, decoding_of}
use Rattle.gao_decoder.proofs.Counting.{agreement_same}
use Rattle.gao_decoder.proofs.Decoded.{one_decoded}
use Rattle.star_lists.proofs.Elements.{In}
use Rattle.star_lists.proofs.Inside.{in_map}
use Rattle.gao_decoder.proofs.Finding.{in_flat_map, in_range_with_len, All-flat_map, All-range_with_len, IfSome-find, IsSome-find}

-- k coefficients, each below p
pub record HasCoefficientsBelow (p k : ℕ) (f : List ℕ) : Type 0 where
  pub count : length f ≡ k
  pub below : All (λ c. c < p) f

-- each list of the search has k coefficients below p
pub All-polynomials_below : (p k : ℕ) → All (HasCoefficientsBelow p k) (polynomials_below p k)
unfolding polynomials_below
All-polynomials_below p zero = All-cons (HasCoefficientsBelow p 0) [] [] (record { count = refl; below = All-nil (λ c. c < p) }) (All-nil (HasCoefficientsBelow p 0))
All-polynomials_below p (suc k) =
    All-flat_map (λ c. c < p) (HasCoefficientsBelow p (suc k)) (λ c. map (λ f. c ∷ f) (polynomials_below p k)) (range_with_len 0 p) (All-range_with_len p)
    (λ c c_below. All-map (HasCoefficientsBelow p (suc k)) (λ f. c ∷ f) (polynomials_below p k)
    (All-weaker (HasCoefficientsBelow p k) (λ f. HasCoefficientsBelow p (suc k) (c ∷ f)) (λ f is. record { count = ap suc is.count; below = All-cons (λ a. a < p) c f c_below is.below }) (polynomials_below p k) (All-polynomials_below p k)))

-- and each such list is in the search
pub in_polynomials_below : (p k : ℕ) (f : List ℕ) → length f ≡ k → All (λ c. c < p) f → In f (polynomials_below p k)
unfolding polynomials_below
in_polynomials_below p zero [] count below = inl refl
in_polynomials_below p zero (c ∷ f) count below = absurd (omega arith)
in_polynomials_below p (suc k) [] count below = absurd (omega arith)
in_polynomials_below p (suc k) (c ∷ f) count below =
    in_flat_map (λ a. map (λ g. a ∷ g) (polynomials_below p k)) c (c ∷ f) (range_with_len 0 p)
    (in_range_with_len c 0 p (omega arith) (omega (arith, All-head (λ a. a < p) c f below)))
    (in_map (λ g. c ∷ g) f (polynomials_below p k) (in_polynomials_below p k f (omega arith) (All-tail (λ a. a < p) c f below)))

-- the first k coefficients
abbrev pub front_of : List ℕ → ℕ → List ℕ
front_of f k = map (coefficient_of f) (range_with_len 0 k)

-- they are the polynomial, where its degree is below k
pub front_of-same : (f : List ℕ) (k : ℕ) → HasDegreeBelow f k → SameCoefficients (front_of f k) f
front_of-same f k below i = elim (cases_lt i k) [
  | inl l ↦ get_or-map-range_with_len (coefficient_of f) 0 k i i 0 l (omega arith)
  | inr l ↦ coefficient_of-past (front_of f k) i (omega (arith, length-map-range_with_len (coefficient_of f) 0 k)) ∙ sym (below i l)
]

-- a polynomial of degree below k is in the search by its first k coefficients
pub in_front_of : (f : List ℕ) (k : ℕ) → AreElements f → In (front_of f k) (polynomials_below MODULUS k)
in_front_of f k elements =
    let count : length (front_of f k) ≡ k = length-map-range_with_len (coefficient_of f) 0 k in
    in_polynomials_below MODULUS k (front_of f k) count (All-from_get_or (λ c. c < MODULUS) (front_of f k) 0
    (λ i within. subst (λ c. c < MODULUS) (sym (get_or-map-range_with_len (coefficient_of f) 0 k i i 0 (omega (arith, count)) (omega arith))) (AreElements-bounded f elements i)))

-- a polynomial of the search has degree below k
pub HasCoefficientsBelow-degree : (p k : ℕ) (f : List ℕ) → HasCoefficientsBelow p k f → HasDegreeBelow f k
HasCoefficientsBelow-degree p k f is i past = coefficient_of-past f i (omega (arith, is.count))

-- what the search finds is decoded
pub found_is_decoded : (xs ys : List ℕ) (k : ℕ) → IfSome (decoding_of xs ys k) (λ f. (length f ≡ k) × IsDecoded f xs ys k)
unfolding decoding_of
found_is_decoded xs ys k =
    IfSome_then (find (is_decoded xs ys k) (polynomials_below MODULUS k))
    (IfSome-find (is_decoded xs ys k) (HasCoefficientsBelow MODULUS k) (polynomials_below MODULUS k) (All-polynomials_below MODULUS k))
    (λ f (enough, is). (is.count, record { elements = is.below; below = HasCoefficientsBelow-degree MODULUS k f is; agrees = leb-true (length xs + k) (2 * agreement f xs ys) enough }))

-- it finds something where something is decoded
pub decoded_is_found : (f xs ys : List ℕ) (k : ℕ) → IsDecoded f xs ys k → IsSome (decoding_of xs ys k)
unfolding decoding_of
decoded_is_found f xs ys k d =
    IsSome-find (is_decoded xs ys k) (front_of f k) (polynomials_below MODULUS k) (in_front_of f k d.elements)
    (le-leb _ _ (omega (arith, d.agrees, agreement_same (front_of f k) f xs ys (λ x. value-same (front_of f k) f x (front_of-same f k d.below)))))

-- the search answers as b and out do, where they say whether and what is decoded
pub MatchOption-decoding_of : (out xs ys : List ℕ) (k : ℕ) (b : Bool) → (b ≡ true → IsDecoded out xs ys k) → ((f : List ℕ) → IsDecoded f xs ys k → b ≡ true)
    → ((f : List ℕ) → IsDecoded f xs ys k → SameCoefficients out f) → MatchOption (decoding_of xs ys k) (b ≡ false) (λ f. (b ≡ true) × SameCoefficients out f)
MatchOption-decoding_of out xs ys k b found complete only = by_answer b (decoding_of xs ys k) found complete (found_is_decoded xs ys k) (λ f. decoded_is_found f xs ys k)
  where
    by_answer : (b : Bool) (o : Option (List ℕ)) → (b ≡ true → IsDecoded out xs ys k) → ((f : List ℕ) → IsDecoded f xs ys k → b ≡ true)
        → IfSome o (λ f. (length f ≡ k) × IsDecoded f xs ys k) → ((f : List ℕ) → IsDecoded f xs ys k → IsSome o) → MatchOption o (b ≡ false) (λ f. (b ≡ true) × SameCoefficients out f)
    by_answer b (Some f) found complete is some = (complete f is.1, only f is.1)
    by_answer false None found complete is some = refl
    by_answer true None found complete is some = absurd (false≢true (some out (found refl)))

-- the search finds the polynomial that is decoded
pub found_is_same : (f xs ys : List ℕ) (k : ℕ) → AreElements xs → AreDistinct xs → length xs ≡ length ys → k ≤ length xs → IsDecoded f xs ys k
    → IsSomeAnd (decoding_of xs ys k) (λ g. SameCoefficients g f)
found_is_same f xs ys k elements distinct pairs threshold d = by_answer (decoding_of xs ys k) (found_is_decoded xs ys k) (decoded_is_found f xs ys k d)
  where
    by_answer : (o : Option (List ℕ)) → IfSome o (λ g. (length g ≡ k) × IsDecoded g xs ys k) → IsSome o → IsSomeAnd o (λ g. SameCoefficients g f)
    by_answer (Some g) is some = one_decoded g f xs ys k elements distinct pairs threshold is.1 d
    by_answer None is some = absurd (false≢true some)

-- it finds nothing exactly where nothing is decoded
pub none_is_found : (xs ys : List ℕ) (k : ℕ) → IsNone (decoding_of xs ys k) ↔ ¬ ((f : List ℕ) × IsDecoded f xs ys k)
none_is_found xs ys k = by_answer (decoding_of xs ys k) (found_is_decoded xs ys k) (λ f. decoded_is_found f xs ys k)
  where
    by_answer : (o : Option (List ℕ)) → IfSome o (λ f. (length f ≡ k) × IsDecoded f xs ys k) → ((f : List ℕ) → IsDecoded f xs ys k → IsSome o)
        → IsNone o ↔ ¬ ((f : List ℕ) × IsDecoded f xs ys k)
    by_answer (Some f) is some = (λ none. absurd (false≢true (sym none)), λ no. absurd (no (f, is.1)))
    by_answer None is some = (λ _ d. false≢true (some d.0 d.1), λ _. refl)
