-- The three polynomials whose values at 0 are the limbs of a key, and the points on them.
use Rattle.std.specs.Prelude.{ℕ, ◌≡◌, ◌+◌, ◌*◌, ◌≤◌, Bool, ◌&&◌, cond, nat_eq, List, [], ◌∷◌, length, slice_index, map}
use Rattle.field61.specs.Field.{AreElements}
use Rattle.poly61.specs.Poly.{SameCoefficients}
pub use Rattle.poly61.specs.Poly.{value, HasDegreeBelow, AreDistinct}
use Rattle.gao_decoder.specs.Decoding.{PassesFirst}
use Rattle.shamir_limbs.specs.Coefficients.{values}
use Rattle.shamir_limbs.specs.Limbs.{limbs, AreLimbs}
use Rattle.shamir_limbs.specs.declared.recovery.Recovered.{Recovered}
use Rattle.shamir_limbs.specs.declared.share.Point.{Point}

-- the x of each point
abbrev pub xs_of : List Point → List ℕ
xs_of points = map (λ p. p.x) points

-- the y of each point for one limb
abbrev pub ys_of : List Point → ℕ → List ℕ
ys_of points limb = map (λ p. slice_index p.y limb) points

-- the point lies on all three polynomials
abbrev pub is_on_all : List ℕ → List ℕ → List ℕ → Point → Bool
is_on_all q0 q1 q2 p =
    nat_eq (value q0 p.x) (slice_index p.y 0) && (nat_eq (value q1 p.x) (slice_index p.y 1) && nat_eq (value q2 p.x) (slice_index p.y 2))

-- how many of the points lie on all three polynomials
abbrev pub agreement_of_all : List ℕ → List ℕ → List ℕ → List Point → ℕ
agreement_of_all q0 q1 q2 [] = 0
agreement_of_all q0 q1 q2 (p ∷ ps) = cond (is_on_all q0 q1 q2 p) 1 0 + agreement_of_all q0 q1 q2 ps

-- the values of the three polynomials at 0
abbrev pub values_at_zero : List ℕ → List ℕ → List ℕ → List ℕ
values_at_zero q0 q1 q2 = values (q0 ∷ q1 ∷ q2 ∷ []) 0

-- Three polynomials of degree below k have the limbs of a key as their values at 0, and m of the n points lie on all
-- three, where 2m is at least n + k.
pub record IsKeyLine (q0 q1 q2 : List ℕ) (points : List Point) (k : ℕ) : Type 0 where
  pub elements : AreElements q0 × AreElements q1 × AreElements q2
  pub below : HasDegreeBelow q0 k × HasDegreeBelow q1 k × HasDegreeBelow q2 k
  pub limbs : AreLimbs (values_at_zero q0 q1 q2)
  pub agrees : length points + k ≤ 2 * agreement_of_all q0 q1 q2 points

-- and each of them passes through the first k points
pub record IsShortKeyLine (q0 q1 q2 : List ℕ) (points : List Point) (k : ℕ) : Type 0 where
  pub line : IsKeyLine q0 q1 q2 points k
  pub first : PassesFirst q0 (xs_of points) (ys_of points 0) k
  pub second : PassesFirst q1 (xs_of points) (ys_of points 1) k
  pub third : PassesFirst q2 (xs_of points) (ys_of points 2) k

-- this is the key whose limbs are the values at 0, and how many of the points lie on all three polynomials
pub record IsRecoveredFrom (r : Recovered) (q0 q1 q2 : List ℕ) (points : List Point) : Type 0 where
  pub key : limbs r.key.bytes ≡ values_at_zero q0 q1 q2
  pub agree : r.agree ≡ agreement_of_all q0 q1 q2 points

-- three polynomials are the same as three others
abbrev pub AreSame : List ℕ → List ℕ → List ℕ → List ℕ → List ℕ → List ℕ → Type 0
AreSame q0 q1 q2 r0 r1 r2 = SameCoefficients q0 r0 × SameCoefficients q1 r1 × SameCoefficients q2 r2
