-- How many points lie on all three polynomials.
use Rattle.std.proofs.Common.{ℕ, zero, suc, ◌+◌, ◌<◌, ◌≤◌, ◌≡◌, ◌∙◌, sym, ap, ap₂, refl, arith, add_assoc, Bool, true, false, cond, eqb, List, [], ◌∷◌, length, slice_index, get_or, take}
use mathlib.Core.Bool.{◌&&◌}
use Rattle.poly61.specs.Poly.{value}
use Rattle.poly61.proofs.Lists.{value-same}
use Rattle.gao_decoder.specs.Decoding.{agreement}
use Rattle.shamir_limbs.specs.KeyLine.{xs_of, ys_of, is_on_all, agreement_of_all, values_at_zero, AreSame}
use Rattle.shamir_limbs.specs.declared.share.Point.{Point}

-- one point more
pub agreement_of_all-more : (q0 q1 q2 : List ℕ) (points : List Point) (i : ℕ) (p : Point) → i < length points
    → agreement_of_all q0 q1 q2 (take (i + 1) points) ≡ agreement_of_all q0 q1 q2 (take i points) + cond (is_on_all q0 q1 q2 (get_or points i p)) 1 0
agreement_of_all-more q0 q1 q2 [] i p within = absurd (omega arith)
agreement_of_all-more q0 q1 q2 (a ∷ points) zero p within = omega arith
agreement_of_all-more q0 q1 q2 (a ∷ points) (suc i) p within =
    let here : ℕ = cond (is_on_all q0 q1 q2 a) 1 0 in
    let last : ℕ = cond (is_on_all q0 q1 q2 (get_or points i p)) 1 0 in
    ap (λ n. agreement_of_all q0 q1 q2 (take n (a ∷ points))) {x = suc i + 1} {y = suc (i + 1)} (omega arith)
    ∙ ap (λ n. here + n) (agreement_of_all-more q0 q1 q2 points i p (omega arith)) ∙ sym (add_assoc here (agreement_of_all q0 q1 q2 (take i points)) last)

-- a count under two tests is at most the count under either
both-left : (a b : Bool) (m n : ℕ) → m ≤ n → cond (a && b) 1 0 + m ≤ cond a 1 0 + n
both-left true true m n h = omega arith
both-left true false m n h = omega arith
both-left false b m n h = omega arith

both-right : (a b : Bool) (m n : ℕ) → m ≤ n → cond (a && b) 1 0 + m ≤ cond b 1 0 + n
both-right true true m n h = omega arith
both-right true false m n h = omega arith
both-right false true m n h = omega arith
both-right false false m n h = omega arith

middle : (a b c : Bool) (m n : ℕ) → m ≤ n → cond (a && (b && c)) 1 0 + m ≤ cond b 1 0 + n
middle true b c m n h = both-left b c m n h
middle false true c m n h = omega arith
middle false false c m n h = omega arith

last-of : (a b c : Bool) (m n : ℕ) → m ≤ n → cond (a && (b && c)) 1 0 + m ≤ cond c 1 0 + n
last-of true b c m n h = both-right b c m n h
last-of false b true m n h = omega arith
last-of false b false m n h = omega arith

-- a point on all three lies on each
pub agreement_of_all-first : (q0 q1 q2 : List ℕ) (points : List Point) → agreement_of_all q0 q1 q2 points ≤ agreement q0 (xs_of points) (ys_of points 0)
agreement_of_all-first q0 q1 q2 [] = omega arith
agreement_of_all-first q0 q1 q2 (p ∷ points) = both-left _ _ _ _ (agreement_of_all-first q0 q1 q2 points)

pub agreement_of_all-second : (q0 q1 q2 : List ℕ) (points : List Point) → agreement_of_all q0 q1 q2 points ≤ agreement q1 (xs_of points) (ys_of points 1)
agreement_of_all-second q0 q1 q2 [] = omega arith
agreement_of_all-second q0 q1 q2 (p ∷ points) = middle _ _ _ _ _ (agreement_of_all-second q0 q1 q2 points)

pub agreement_of_all-third : (q0 q1 q2 : List ℕ) (points : List Point) → agreement_of_all q0 q1 q2 points ≤ agreement q2 (xs_of points) (ys_of points 2)
agreement_of_all-third q0 q1 q2 [] = omega arith
agreement_of_all-third q0 q1 q2 (p ∷ points) = last-of _ _ _ _ _ (agreement_of_all-third q0 q1 q2 points)

is_on_all-same : (q0 q1 q2 r0 r1 r2 : List ℕ) (p : Point) → AreSame q0 q1 q2 r0 r1 r2 → is_on_all q0 q1 q2 p ≡ is_on_all r0 r1 r2 p
is_on_all-same q0 q1 q2 r0 r1 r2 p same =
    ap₂ (λ (v w : ℕ). eqb v (slice_index p.y 0) && (eqb w (slice_index p.y 1) && eqb (value q2 p.x) (slice_index p.y 2)))
    (value-same q0 r0 p.x same.0) (value-same q1 r1 p.x same.1)
    ∙ ap (λ (v : ℕ). eqb (value r0 p.x) (slice_index p.y 0) && (eqb (value r1 p.x) (slice_index p.y 1) && eqb v (slice_index p.y 2))) (value-same q2 r2 p.x same.2)

-- the same polynomials have the same points
pub agreement_of_all-same : (q0 q1 q2 r0 r1 r2 : List ℕ) (points : List Point) → AreSame q0 q1 q2 r0 r1 r2 → agreement_of_all q0 q1 q2 points ≡ agreement_of_all r0 r1 r2 points
agreement_of_all-same q0 q1 q2 r0 r1 r2 [] same = refl
agreement_of_all-same q0 q1 q2 r0 r1 r2 (p ∷ points) same =
    ap₂ (λ (b : Bool) (n : ℕ). cond b 1 0 + n) (is_on_all-same q0 q1 q2 r0 r1 r2 p same) (agreement_of_all-same q0 q1 q2 r0 r1 r2 points same)

-- and the same values at 0
pub values_at_zero-same : (q0 q1 q2 r0 r1 r2 : List ℕ) → AreSame q0 q1 q2 r0 r1 r2 → values_at_zero q0 q1 q2 ≡ values_at_zero r0 r1 r2
values_at_zero-same q0 q1 q2 r0 r1 r2 same =
    ap₂ (λ (a b : ℕ). a ∷ b ∷ value q2 0 ∷ []) (value-same q0 r0 0 same.0) (value-same q1 r1 0 same.1)
    ∙ ap (λ (c : ℕ). value r0 0 ∷ value r1 0 ∷ c ∷ []) (value-same q2 r2 0 same.2)
