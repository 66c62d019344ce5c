-- The numbers of a key line are the coefficients of its polynomials.
use Rattle.std.proofs.Common.{◌≡◌, ◌∙◌, ℕ, suc, ◌<◌, ◌≤◌, true, List, [], ◌∷◌, ◌++◌, Option, Some, None, IsSome, IfSome, option_map, inl, inr, length, take, refl, sym, ap, arith}
use Rattle.std.specs.List.{find}
use Rattle.std.specs.Option.{option_map_or}
use Rattle.std.proofs.lemmas.Bool.{false≢true, cases_lt}
use Rattle.std.proofs.lemmas.List.{get_or-take, get_or_past, length-take, length-take-le}
use Rattle.std.proofs.lemmas.List.Elements.{All-take}
use Rattle.field61.specs.Field.{AreElements}
use Rattle.field61.specs.declared.TheConstants.{MODULUS}
use Rattle.poly61.specs.Poly.{SameCoefficients, HasDegreeBelow, AreDistinct}
use Rattle.shamir_limbs.specs.KeyLine.{xs_of, IsKeyLine}
use Rattle.shamir_limbs.specs.Numbers.{triple_of, joined, line_numbers}
use Rattle.shamir_limbs.specs.Search.{Triple, triples_below, is_key_line, recovered_from, key_line_of}
use Rattle.shamir_limbs.specs.declared.recovery.Recovered.{Recovered}
use Rattle.shamir_limbs.specs.declared.share.Point.{Point}
use Rattle.shamir_limbs.proofs.KeyLines.{one_key_line, key_line_same}
use Rattle.shamir_limbs.proofs.LineSearch.{HaveCoefficientsBelow, All-triples_below, is_key_line-line, line_is_found}
use Rattle.gao_decoder.proofs.Finding.{IfSome-find}

-- three polynomials of k coefficients that are a key line
pub record IsLineTriple (points : List Point) (k : ℕ) (q : Triple) : Type 0 where
  pub line : IsKeyLine q.first q.second q.third points k
  pub first : length q.first ≡ k
  pub second : length q.second ≡ k
  pub third : length q.third ≡ k

-- what the search finds is such a triple
found_triple : (points : List Point) (k : ℕ) → IfSome (triple_of points k) (IsLineTriple points k)
unfolding triple_of
found_triple points k = of_found (find (is_key_line points k) (triples_below MODULUS k)) (IfSome-find (is_key_line points k) (HaveCoefficientsBelow MODULUS k) (triples_below MODULUS k) (All-triples_below MODULUS k))
  where
    of_found : (o : Option Triple) → IfSome o (λ q. (is_key_line points k q ≡ true) × HaveCoefficientsBelow MODULUS k q) → IfSome o (IsLineTriple points k)
    of_found None is = tt
    of_found (Some q) is = record { line = is_key_line-line points k q is.1 is.0; first = is.1.first.count; second = is.1.second.count; third = is.1.third.count }

some_triple : (q0 q1 q2 : List ℕ) (points : List Point) (k : ℕ) → IsKeyLine q0 q1 q2 points k → IsSome (triple_of points k)
unfolding triple_of key_line_of
some_triple q0 q1 q2 points k line = of_mapped (find (is_key_line points k) (triples_below MODULUS k)) (line_is_found q0 q1 q2 points k line)
  where
    of_mapped : (o : Option Triple) → IsSome (option_map (λ (q : Triple). recovered_from q.first q.second q.third points) o) → IsSome o
    of_mapped None some = some
    of_mapped (Some q) some = refl

-- lists of one length with the same coefficients
equal_lists : (xs ys : List ℕ) → length xs ≡ length ys → SameCoefficients xs ys → xs ≡ ys
equal_lists [] [] e same = refl
equal_lists [] (y ∷ ys) e same = absurd (omega arith)
equal_lists (x ∷ xs) [] e same = absurd (omega arith)
equal_lists (x ∷ xs) (y ∷ ys) e same =
    let head : x ≡ y = same 0 in
    λ i. head i ∷ equal_lists xs ys (omega arith) (λ n. same (suc n)) i

-- three polynomials of k coefficients that are a key line are the triple that the search finds
triple_is : (q : Triple) (points : List Point) (k : ℕ) → AreElements (xs_of points) → AreDistinct (xs_of points) → k ≤ length points → IsLineTriple points k q → triple_of points k ≡ Some q
triple_is q points k elements distinct threshold is = of_found (triple_of points k) (found_triple points k) (some_triple q.first q.second q.third points k is.line)
  where
    of_found : (o : Option Triple) → IfSome o (IsLineTriple points k) → IsSome o → o ≡ Some q
    of_found None found some = absurd (false≢true some)
    of_found (Some r) found some =
        let same = one_key_line r.first r.second r.third q.first q.second q.third points k elements distinct threshold found.line is.line in
        let first : r.first ≡ q.first = equal_lists r.first q.first (found.first ∙ sym is.first) same.0 in
        let second : r.second ≡ q.second = equal_lists r.second q.second (found.second ∙ sym is.second) same.1 in
        let third : r.third ≡ q.third = equal_lists r.third q.third (found.third ∙ sym is.third) same.2 in
        λ i. Some (record { first = first i; second = second i; third = third i })

-- the coefficients from k on don't count where the degree is below k
same_front : (q : List ℕ) (k : ℕ) → HasDegreeBelow q k → SameCoefficients q (take k q)
same_front q k below i = elim (cases_lt i k) [
  | inl lt ↦ sym (get_or-take k q i 0 lt)
  | inr past ↦ below i past ∙ sym (get_or_past (take k q) i 0 (omega (arith, length-take k q)))
]

numbers_with : (points : List Point) (k : ℕ) (q : Triple) → triple_of points k ≡ Some q → line_numbers points k ≡ joined q
unfolding line_numbers
numbers_with points k q is = ap (λ o. option_map_or joined o []) is

-- the first k coefficients of a key line's polynomials are its numbers
pub numbers_are : (q0 q1 q2 : List ℕ) (points : List Point) (k : ℕ) → AreElements (xs_of points) → AreDistinct (xs_of points) → k ≤ length points
    → k ≤ length q0 → k ≤ length q1 → k ≤ length q2 → IsKeyLine q0 q1 q2 points k → take k q0 ++ (take k q1 ++ take k q2) ≡ line_numbers points k
numbers_are q0 q1 q2 points k elements distinct threshold long0 long1 long2 line =
    let q : Triple = record { first = take k q0; second = take k q1; third = take k q2 } in
    let front : IsKeyLine q.first q.second q.third points k =
    key_line_same q0 q1 q2 q.first q.second q.third points k (same_front q0 k line.below.0, same_front q1 k line.below.1, same_front q2 k line.below.2)
    (All-take (λ x. x < MODULUS) k q0 line.elements.0, All-take (λ x. x < MODULUS) k q1 line.elements.1, All-take (λ x. x < MODULUS) k q2 line.elements.2) line in
    let is : IsLineTriple points k q = record { line = front; first = length-take-le k q0 long0; second = length-take-le k q1 long1; third = length-take-le k q2 long2 } in
    sym (numbers_with points k q (triple_is q points k elements distinct threshold is))

-- where there is a key line, its numbers are those of three polynomials of k coefficients
pub record HasNumbers (points : List Point) (k : ℕ) (found : Recovered) : Type 0 where
  pub q : Triple
  pub is : IsLineTriple points k q
  pub numbers : line_numbers points k ≡ joined q
  pub from : found ≡ recovered_from q.first q.second q.third points

pub found_numbers : (points : List Point) (k : ℕ) (found : Recovered) → key_line_of points k ≡ Some found → HasNumbers points k found
unfolding key_line_of triple_of
found_numbers points k found is = of_found (triple_of points k) refl (found_triple points k) is
  where
    of_found : (o : Option Triple) → triple_of points k ≡ o → IfSome o (IsLineTriple points k) → option_map (λ (q : Triple). recovered_from q.first q.second q.third points) o ≡ Some found → HasNumbers points k found
    of_found None there triple some = absurd (cc)
    of_found (Some q) there triple some = record {
      q = q;
      is = triple;
      numbers = numbers_with points k q there;
      from = let same : recovered_from q.first q.second q.third points ≡ found = cc in sym same;
    }
