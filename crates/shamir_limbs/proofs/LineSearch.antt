-- The search through all triples of polynomials of low degree finds the key line.
use Rattle.std.proofs.Common.{◌≡◌, ◌∙◌, ℕ, ◌≤◌, ◌↔◌, true, List, Option, Some, None, IsSome, IsNone, IfSome, IsSomeAnd, option_map, length, refl, sym, ap, ap₂, subst, arith}
use Rattle.std.specs.List.{All, find}
use Rattle.std.proofs.lemmas.Bool.{false≢true, ltb-true, lt-ltb, leb-true, le-leb, and_parts, and_from}
use Rattle.std.proofs.lemmas.List.Elements.{All-map, All-weaker}
use Rattle.field61.specs.Field.{AreElements}
use Rattle.field61.specs.declared.TheConstants.{MODULUS}
use Rattle.poly61.specs.Poly.{AreDistinct}
use Rattle.gao_decoder.specs.Search.{polynomials_below}
use Rattle.star_lists.proofs.Elements.{In}
use Rattle.star_lists.proofs.Inside.{in_map}
use Rattle.gao_decoder.proofs.Finding.{in_flat_map, All-flat_map, IfSome-find, IsSome-find}
use Rattle.gao_decoder.proofs.Search.{HasCoefficientsBelow, HasCoefficientsBelow-degree, All-polynomials_below, front_of, front_of-same, in_front_of}
use Rattle.shamir_limbs.specs.KeyLine.{xs_of, values_at_zero, IsKeyLine, IsRecoveredFrom, AreSame}
use Rattle.shamir_limbs.specs.Limbs.{limbs, key_bytes, IsKey, AreLimbs}
use Rattle.shamir_limbs.specs.Search.{Triple, triples_below, are_limbs, is_key_line, recovered_from, key_line_of}
use Rattle.shamir_limbs.specs.declared.recovery.Recovered.{Recovered}
use Rattle.shamir_limbs.specs.declared.share.Point.{Point}
use Rattle.shamir_limbs.proofs.KeyLines.{one_key_line}
use Rattle.shamir_limbs.proofs.LimbLaws.{limbs_come_back, limbs-key_bytes}
use Rattle.shamir_limbs.proofs.OnAll.{agreement_of_all-same, values_at_zero-same}

-- three polynomials of k coefficients, each below p
pub record HaveCoefficientsBelow (p k : ℕ) (q : Triple) : Type 0 where
  pub first : HasCoefficientsBelow p k q.first
  pub second : HasCoefficientsBelow p k q.second
  pub third : HasCoefficientsBelow p k q.third

-- each triple of the search is three such polynomials
pub All-triples_below : (p k : ℕ) → All (HaveCoefficientsBelow p k) (triples_below p k)
unfolding triples_below
All-triples_below p k =
    let all : List (List ℕ) = polynomials_below p k in
    let each : All (HasCoefficientsBelow p k) all = All-polynomials_below p k in
    All-flat_map (HasCoefficientsBelow p k) (HaveCoefficientsBelow p k) _ all each
    (λ f first. All-flat_map (HasCoefficientsBelow p k) (HaveCoefficientsBelow p k) _ all each
    (λ g second. All-map (HaveCoefficientsBelow p k) (λ h. record { first = f; second = g; third = h }) all
    (All-weaker (HasCoefficientsBelow p k) (λ h. HaveCoefficientsBelow p k (record { first = f; second = g; third = h })) (λ h third. record { first = first; second = second; third = third }) all each)))

-- and each three of the polynomials are a triple of it
in_triples_below : (p k : ℕ) (f g h : List ℕ) → In f (polynomials_below p k) → In g (polynomials_below p k) → In h (polynomials_below p k)
    → In (record { first = f; second = g; third = h }) (triples_below p k)
unfolding triples_below
in_triples_below p k f g h first second third =
    in_flat_map _ f _ (polynomials_below p k) first (in_flat_map _ g _ (polynomials_below p k) second (in_map (λ w. record { first = f; second = g; third = w }) h (polynomials_below p k) third))

-- what the test of limbs says, both ways
pub are_limbs-true : (numbers : List ℕ) → are_limbs numbers ≡ true → AreLimbs numbers
are_limbs-true numbers is =
    let parts = and_parts _ _ is in
    let rest = and_parts _ _ parts.1 in
    (ltb-true _ _ parts.0, ltb-true _ _ rest.0, ltb-true _ _ rest.1)

pub AreLimbs-are_limbs : (numbers : List ℕ) → AreLimbs numbers → are_limbs numbers ≡ true
AreLimbs-are_limbs numbers is = and_from _ _ (lt-ltb _ _ is.0) (and_from _ _ (lt-ltb _ _ is.1) (lt-ltb _ _ is.2))

-- what passes the test is a key line
pub is_key_line-line : (points : List Point) (k : ℕ) (q : Triple) → HaveCoefficientsBelow MODULUS k q → is_key_line points k q ≡ true → IsKeyLine q.first q.second q.third points k
is_key_line-line points k q has passes =
    let parts = and_parts _ _ passes in
    record {
      elements = (has.first.below, has.second.below, has.third.below);
      below = (HasCoefficientsBelow-degree MODULUS k q.first has.first, HasCoefficientsBelow-degree MODULUS k q.second has.second, HasCoefficientsBelow-degree MODULUS k q.third has.third);
      limbs = are_limbs-true (values_at_zero q.first q.second q.third) parts.0;
      agrees = leb-true _ _ parts.1;
    }

-- the same polynomials give the same key and agreement
recovered_from-same : (q0 q1 q2 r0 r1 r2 : List ℕ) (points : List Point) → AreSame q0 q1 q2 r0 r1 r2 → recovered_from q0 q1 q2 points ≡ recovered_from r0 r1 r2 points
recovered_from-same q0 q1 q2 r0 r1 r2 points same =
    ap₂ (λ (numbers : List ℕ) (n : ℕ). let r : Recovered = record { key = record { bytes = key_bytes numbers }; agree = n } in r) (values_at_zero-same q0 q1 q2 r0 r1 r2 same) (agreement_of_all-same q0 q1 q2 r0 r1 r2 points same)

-- what the search finds is recovered from a key line
pub found_is_line : (points : List Point) (k : ℕ) → IfSome (key_line_of points k) (λ r. (q0 : List ℕ) × (q1 : List ℕ) × (q2 : List ℕ) × IsKeyLine q0 q1 q2 points k × (r ≡ recovered_from q0 q1 q2 points))
unfolding key_line_of
found_is_line points k = of_found (find (is_key_line points k) (triples_below MODULUS k)) (IfSome-find (is_key_line points k) (HaveCoefficientsBelow MODULUS k) (triples_below MODULUS k) (All-triples_below MODULUS k))
  where
    of_found : (o : Option Triple) → IfSome o (λ q. (is_key_line points k q ≡ true) × HaveCoefficientsBelow MODULUS k q)
        → IfSome (option_map (λ q. recovered_from q.first q.second q.third points) o) (λ r. (q0 : List ℕ) × (q1 : List ℕ) × (q2 : List ℕ) × IsKeyLine q0 q1 q2 points k × (r ≡ recovered_from q0 q1 q2 points))
    of_found None is = tt
    of_found (Some q) is = (q.first, q.second, q.third, is_key_line-line points k q is.1 is.0, refl)

-- it finds something where there is a key line
pub line_is_found : (q0 q1 q2 : List ℕ) (points : List Point) (k : ℕ) → IsKeyLine q0 q1 q2 points k → IsSome (key_line_of points k)
unfolding key_line_of
line_is_found q0 q1 q2 points k line =
    let f0 : List ℕ = front_of q0 k in
    let f1 : List ℕ = front_of q1 k in
    let f2 : List ℕ = front_of q2 k in
    let same : AreSame f0 f1 f2 q0 q1 q2 = (front_of-same q0 k line.below.0, front_of-same q1 k line.below.1, front_of-same q2 k line.below.2) in
    let q : Triple = record { first = f0; second = f1; third = f2 } in
    of_found (find (is_key_line points k) (triples_below MODULUS k)) (IsSome-find (is_key_line points k) q (triples_below MODULUS k)
    (in_triples_below MODULUS k f0 f1 f2 (in_front_of q0 k line.elements.0) (in_front_of q1 k line.elements.1) (in_front_of q2 k line.elements.2))
    (and_from _ _ (AreLimbs-are_limbs (values_at_zero f0 f1 f2) (subst AreLimbs (sym (values_at_zero-same f0 f1 f2 q0 q1 q2 same)) line.limbs))
    (le-leb _ _ (omega (arith, line.agrees, agreement_of_all-same f0 f1 f2 q0 q1 q2 points same)))))
  where
    of_found : (o : Option Triple) → IsSome o → IsSome (option_map (λ q. recovered_from q.first q.second q.third points) o)
    of_found None some = some
    of_found (Some q) some = refl

is_recovered_from : (r : Recovered) (q0 q1 q2 : List ℕ) (points : List Point) → IsKey r.key.bytes → IsRecoveredFrom r q0 q1 q2 points → r ≡ recovered_from q0 q1 q2 points
is_recovered_from r q0 q1 q2 points key from =
    ap₂ (λ (bytes : List ℕ) (n : ℕ). let s : Recovered = record { key = record { bytes = bytes }; agree = n } in s) (sym (limbs_come_back r.key.bytes key).1 ∙ ap key_bytes from.key) from.agree

-- a key is recovered from polynomials in one way
pub one_recovered : (r : Recovered) (q0 q1 q2 : List ℕ) (points : List Point) → IsKey r.key.bytes → AreLimbs (values_at_zero q0 q1 q2)
    → IsRecoveredFrom r q0 q1 q2 points ↔ (r ≡ recovered_from q0 q1 q2 points)
one_recovered r q0 q1 q2 points key range = (
  is_recovered_from r q0 q1 q2 points key,
  λ is. record {
    key = ap (λ (s : Recovered). limbs s.key.bytes) is ∙ limbs-key_bytes (values_at_zero q0 q1 q2) refl range;
    agree = ap (λ (s : Recovered). s.agree) is;
  },
)

-- the answer of the search for a key line
pub line_of_polynomials : (q0 q1 q2 : List ℕ) (points : List Point) (k : ℕ) → AreElements (xs_of points) → AreDistinct (xs_of points) → k ≤ length points
    → IsKeyLine q0 q1 q2 points k → key_line_of points k ≡ Some (recovered_from q0 q1 q2 points)
line_of_polynomials q0 q1 q2 points k elements distinct threshold line = of_found (key_line_of points k) (found_is_line points k) (line_is_found q0 q1 q2 points k line)
  where
    of_found : (o : Option Recovered) → IfSome o (λ r. (f0 : List ℕ) × (f1 : List ℕ) × (f2 : List ℕ) × IsKeyLine f0 f1 f2 points k × (r ≡ recovered_from f0 f1 f2 points))
        → IsSome o → o ≡ Some (recovered_from q0 q1 q2 points)
    of_found None is some = absurd (false≢true some)
    of_found (Some r) (f0, f1, f2, other, is) some = ap Some (is ∙ recovered_from-same f0 f1 f2 q0 q1 q2 points (one_key_line f0 f1 f2 q0 q1 q2 points k elements distinct threshold other line))

-- it finds nothing exactly where there is no key line
pub no_line : (points : List Point) (k : ℕ) → IsNone (key_line_of points k) ↔ ¬ ((q0 : List ℕ) × (q1 : List ℕ) × (q2 : List ℕ) × IsKeyLine q0 q1 q2 points k)
no_line points k = of_found (key_line_of points k) (found_is_line points k) (λ q0 q1 q2. line_is_found q0 q1 q2 points k)
  where
    of_found : (o : Option Recovered) → IfSome o (λ r. (f0 : List ℕ) × (f1 : List ℕ) × (f2 : List ℕ) × IsKeyLine f0 f1 f2 points k × (r ≡ recovered_from f0 f1 f2 points))
        → ((q0 q1 q2 : List ℕ) → IsKeyLine q0 q1 q2 points k → IsSome o) → IsNone o ↔ ¬ ((q0 : List ℕ) × (q1 : List ℕ) × (q2 : List ℕ) × IsKeyLine q0 q1 q2 points k)
    of_found None is complete = (λ _ (q0, q1, q2, line). false≢true (complete q0 q1 q2 line), λ _. refl)
    of_found (Some r) (f0, f1, f2, line, is) complete = (λ none. absurd (false≢true (sym none)), λ no. absurd (no (f0, f1, f2, line)))

-- what is recovered exactly from the key lines is what the search finds
pub recovered_is_line : (points : List Point) (k : ℕ) (o : Option Recovered) → IfSome o (λ r. IsKey r.key.bytes)
    → IfSome o (λ r. (q0 : List ℕ) × (q1 : List ℕ) × (q2 : List ℕ) × IsKeyLine q0 q1 q2 points k × IsRecoveredFrom r q0 q1 q2 points)
    → ((q0 q1 q2 : List ℕ) → IsKeyLine q0 q1 q2 points k → IsSomeAnd o (λ r. IsRecoveredFrom r q0 q1 q2 points)) → o ≡ key_line_of points k
recovered_is_line points k o = of_found o (key_line_of points k) (found_is_line points k) (λ q0 q1 q2. line_is_found q0 q1 q2 points k)
  where
    of_found : (o found : Option Recovered) → IfSome found (λ r. (f0 : List ℕ) × (f1 : List ℕ) × (f2 : List ℕ) × IsKeyLine f0 f1 f2 points k × (r ≡ recovered_from f0 f1 f2 points))
        → ((q0 q1 q2 : List ℕ) → IsKeyLine q0 q1 q2 points k → IsSome found) → IfSome o (λ r. IsKey r.key.bytes)
        → IfSome o (λ r. (q0 : List ℕ) × (q1 : List ℕ) × (q2 : List ℕ) × IsKeyLine q0 q1 q2 points k × IsRecoveredFrom r q0 q1 q2 points)
        → ((q0 q1 q2 : List ℕ) → IsKeyLine q0 q1 q2 points k → IsSomeAnd o (λ r. IsRecoveredFrom r q0 q1 q2 points)) → o ≡ found
    of_found None None is complete key from only = refl
    of_found (Some r) None is complete key (q0, q1, q2, line, _) only = absurd (false≢true (complete q0 q1 q2 line))
    of_found None (Some s) (f0, f1, f2, line, is) complete key from only = absurd (only f0 f1 f2 line)
    of_found (Some r) (Some s) (f0, f1, f2, line, is) complete key from only = ap Some (is_recovered_from r f0 f1 f2 points key (only f0 f1 f2 line) ∙ sym is)
