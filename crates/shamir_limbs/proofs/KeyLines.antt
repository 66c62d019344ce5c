-- Each polynomial of a key line is decoded, and so there is one key line.
use Rattle.std.proofs.Common.{ℕ, ◌≤◌, ◌≡◌, refl, sym, arith, List, length, slice_index, ◌↔◌, ◌∙◌, Option, Some, None, IsSome, IfSome, IsSomeAnd, ◌+◌, ◌*◌, subst}
use Rattle.std.proofs.lemmas.Bool.{false≢true}
use Rattle.std.proofs.lemmas.List.{length-map}
use Rattle.field61.specs.Field.{AreElements}
use Rattle.poly61.specs.Poly.{AreDistinct}
use Rattle.gao_decoder.specs.Decoding.{IsDecoded, IsDecodedShort}
use Rattle.gao_decoder.proofs.Decoded.{one_decoded}
use Rattle.shamir_limbs.specs.KeyLine.{xs_of, ys_of, agreement_of_all, values_at_zero, IsKeyLine, IsShortKeyLine, IsRecoveredFrom, AreSame}
use Rattle.shamir_limbs.specs.Limbs.{AreLimbs}
use Rattle.shamir_limbs.specs.declared.recovery.Recovered.{Recovered}
use Rattle.shamir_limbs.specs.declared.share.Point.{Point}
use Rattle.shamir_limbs.proofs.OnAll.{agreement_of_all-first, agreement_of_all-second, agreement_of_all-third, agreement_of_all-same, values_at_zero-same}

pub length-xs_of : (points : List Point) → length (xs_of points) ≡ length points
length-xs_of points = length-map points (λ (p : Point). p.x)

pub length-ys_of : (points : List Point) (limb : ℕ) → length (ys_of points limb) ≡ length points
length-ys_of points limb = length-map points (λ (p : Point). slice_index p.y limb)

pub first_decoded : (q0 q1 q2 : List ℕ) (points : List Point) (k : ℕ) → IsKeyLine q0 q1 q2 points k → IsDecoded q0 (xs_of points) (ys_of points 0) k
first_decoded q0 q1 q2 points k line = record {
  elements = line.elements.0;
  below = line.below.0;
  agrees = omega (arith, line.agrees, length-xs_of points, agreement_of_all-first q0 q1 q2 points);
}

pub second_decoded : (q0 q1 q2 : List ℕ) (points : List Point) (k : ℕ) → IsKeyLine q0 q1 q2 points k → IsDecoded q1 (xs_of points) (ys_of points 1) k
second_decoded q0 q1 q2 points k line = record {
  elements = line.elements.1;
  below = line.below.1;
  agrees = omega (arith, line.agrees, length-xs_of points, agreement_of_all-second q0 q1 q2 points);
}

pub third_decoded : (q0 q1 q2 : List ℕ) (points : List Point) (k : ℕ) → IsKeyLine q0 q1 q2 points k → IsDecoded q2 (xs_of points) (ys_of points 2) k
third_decoded q0 q1 q2 points k line = record {
  elements = line.elements.2;
  below = line.below.2;
  agrees = omega (arith, line.agrees, length-xs_of points, agreement_of_all-third q0 q1 q2 points);
}

pub first_decoded_short : (q0 q1 q2 : List ℕ) (points : List Point) (k : ℕ) → IsShortKeyLine q0 q1 q2 points k → IsDecodedShort q0 (xs_of points) (ys_of points 0) k
first_decoded_short q0 q1 q2 points k short = record { decoded = first_decoded q0 q1 q2 points k short.line; passes = short.first }

pub second_decoded_short : (q0 q1 q2 : List ℕ) (points : List Point) (k : ℕ) → IsShortKeyLine q0 q1 q2 points k → IsDecodedShort q1 (xs_of points) (ys_of points 1) k
second_decoded_short q0 q1 q2 points k short = record { decoded = second_decoded q0 q1 q2 points k short.line; passes = short.second }

pub third_decoded_short : (q0 q1 q2 : List ℕ) (points : List Point) (k : ℕ) → IsShortKeyLine q0 q1 q2 points k → IsDecodedShort q2 (xs_of points) (ys_of points 2) k
third_decoded_short q0 q1 q2 points k short = record { decoded = third_decoded q0 q1 q2 points k short.line; passes = short.third }

pub one_key_line : (q0 q1 q2 r0 r1 r2 : List ℕ) (points : List Point) (k : ℕ) → AreElements (xs_of points) → AreDistinct (xs_of points) → k ≤ length points
    → IsKeyLine q0 q1 q2 points k → IsKeyLine r0 r1 r2 points k → AreSame q0 q1 q2 r0 r1 r2
one_key_line q0 q1 q2 r0 r1 r2 points k elements distinct threshold q r =
    let pairs : (limb : ℕ) → length (xs_of points) ≡ length (ys_of points limb) = λ limb. omega (arith, length-xs_of points, length-ys_of points limb) in
    let enough : k ≤ length (xs_of points) = omega (arith, length-xs_of points) in (
      one_decoded q0 r0 (xs_of points) (ys_of points 0) k elements distinct (pairs 0) enough (first_decoded q0 q1 q2 points k q) (first_decoded r0 r1 r2 points k r),
      one_decoded q1 r1 (xs_of points) (ys_of points 1) k elements distinct (pairs 1) enough (second_decoded q0 q1 q2 points k q) (second_decoded r0 r1 r2 points k r),
      one_decoded q2 r2 (xs_of points) (ys_of points 2) k elements distinct (pairs 2) enough (third_decoded q0 q1 q2 points k q) (third_decoded r0 r1 r2 points k r),
    )

-- what three polynomials give is what a key line with their coefficients gives
pub recovered_from_line : (f0 f1 f2 q0 q1 q2 : List ℕ) (points : List Point) (k : ℕ) (o : Option Recovered) → AreSame f0 f1 f2 q0 q1 q2
    → (IsSome o ↔ (AreLimbs (values_at_zero f0 f1 f2) × (length points + k ≤ 2 * agreement_of_all f0 f1 f2 points)))
    → IfSome o (λ r. IsRecoveredFrom r f0 f1 f2 points) → IsKeyLine q0 q1 q2 points k → IsSomeAnd o (λ r. IsRecoveredFrom r q0 q1 q2 points)
recovered_from_line f0 f1 f2 q0 q1 q2 points k None same found from line =
    absurd (false≢true (found.1 (subst AreLimbs (sym (values_at_zero-same f0 f1 f2 q0 q1 q2 same)) line.limbs, omega (arith, line.agrees, agreement_of_all-same f0 f1 f2 q0 q1 q2 points same))))
recovered_from_line f0 f1 f2 q0 q1 q2 points k (Some r) same found from line = record {
  key = from.key ∙ values_at_zero-same f0 f1 f2 q0 q1 q2 same;
  agree = from.agree ∙ agreement_of_all-same f0 f1 f2 q0 q1 q2 points same;
}

-- polynomials with the coefficients of a key line are one
pub key_line_same : (q0 q1 q2 r0 r1 r2 : List ℕ) (points : List Point) (k : ℕ) → AreSame q0 q1 q2 r0 r1 r2 → AreElements r0 × AreElements r1 × AreElements r2
    → IsKeyLine q0 q1 q2 points k → IsKeyLine r0 r1 r2 points k
key_line_same q0 q1 q2 r0 r1 r2 points k same elements line = record {
  elements = elements;
  below = (
    (λ i past. sym (same.0 i) ∙ line.below.0 i past),
    (λ i past. sym (same.1 i) ∙ line.below.1 i past),
    (λ i past. sym (same.2 i) ∙ line.below.2 i past),
  );
  limbs = subst AreLimbs (values_at_zero-same q0 q1 q2 r0 r1 r2 same) line.limbs;
  agrees = omega (arith, line.agrees, agreement_of_all-same q0 q1 q2 r0 r1 r2 points same);
}

-- three decoded polynomials that give something are a key line
line_of_decoded : (f0 f1 f2 : List ℕ) (points : List Point) (k : ℕ)
    → IsDecoded f0 (xs_of points) (ys_of points 0) k → IsDecoded f1 (xs_of points) (ys_of points 1) k → IsDecoded f2 (xs_of points) (ys_of points 2) k
    → AreLimbs (values_at_zero f0 f1 f2) × (length points + k ≤ 2 * agreement_of_all f0 f1 f2 points) → IsKeyLine f0 f1 f2 points k
line_of_decoded f0 f1 f2 points k first second third enough = record {
  elements = (first.elements, second.elements, third.elements);
  below = (first.below, second.below, third.below);
  limbs = enough.0;
  agrees = enough.1;
}

pub line_if_found : (f0 f1 f2 : List ℕ) (points : List Point) (k : ℕ) (o : Option Recovered)
    → IsDecoded f0 (xs_of points) (ys_of points 0) k → IsDecoded f1 (xs_of points) (ys_of points 1) k → IsDecoded f2 (xs_of points) (ys_of points 2) k
    → (IsSome o ↔ (AreLimbs (values_at_zero f0 f1 f2) × (length points + k ≤ 2 * agreement_of_all f0 f1 f2 points)))
    → IfSome o (λ r. IsKeyLine f0 f1 f2 points k)
line_if_found f0 f1 f2 points k None first second third found = tt
line_if_found f0 f1 f2 points k (Some r) first second third found = line_of_decoded f0 f1 f2 points k first second third (found.0 refl)

-- what is recovered from a key line is recovered from some key line
pub some_line : (f0 f1 f2 : List ℕ) (points : List Point) (k : ℕ) (o : Option Recovered)
    → IfSome o (λ r. IsKeyLine f0 f1 f2 points k) → IfSome o (λ r. IsRecoveredFrom r f0 f1 f2 points)
    → IfSome o (λ r. (q0 : List ℕ) × (q1 : List ℕ) × (q2 : List ℕ) × IsKeyLine q0 q1 q2 points k × IsRecoveredFrom r q0 q1 q2 points)
some_line f0 f1 f2 points k None line from = tt
some_line f0 f1 f2 points k (Some r) line from = (f0, f1, f2, line, from)

-- the same of polynomials through the first k points
pub short_line_from_decoded : (f0 f1 f2 : List ℕ) (points : List Point) (k : ℕ) (o : Option Recovered)
    → IsDecodedShort f0 (xs_of points) (ys_of points 0) k → IsDecodedShort f1 (xs_of points) (ys_of points 1) k → IsDecodedShort f2 (xs_of points) (ys_of points 2) k
    → (IsSome o ↔ (AreLimbs (values_at_zero f0 f1 f2) × (length points + k ≤ 2 * agreement_of_all f0 f1 f2 points)))
    → IfSome o (λ r. IsRecoveredFrom r f0 f1 f2 points)
    → IfSome o (λ r. (q0 : List ℕ) × (q1 : List ℕ) × (q2 : List ℕ) × IsShortKeyLine q0 q1 q2 points k × IsRecoveredFrom r q0 q1 q2 points)
short_line_from_decoded f0 f1 f2 points k None first second third found from = tt
short_line_from_decoded f0 f1 f2 points k (Some r) first second third found from = (
  f0,
  f1,
  f2,
  record {
    line = line_of_decoded f0 f1 f2 points k first.decoded second.decoded third.decoded (found.0 refl);
    first = first.passes;
    second = second.passes;
    third = third.passes;
  },
  from,
)
