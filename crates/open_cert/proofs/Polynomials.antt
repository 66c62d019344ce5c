-- The polynomials in the numbers of a certificate.
use Rattle.std.proofs.Common.{◌≡◌, ℕ, ◌+◌, ◌-◌, ◌*◌, List, [], ◌++◌, length, take, drop, sym, ap, ◌∙◌, subst, arith, append_assoc, append-nil, length-append}
use Rattle.std.specs.Prelude.{slice_range}
use Rattle.std.proofs.Math.Seq.{take-append_seam, drop-append_seam}
use Rattle.shamir_limbs.specs.KeyLine.{IsKeyLine}
use Rattle.shamir_limbs.specs.declared.share.Point.{Point}

-- the part of a list between two others
piece : (front a rest : List ℕ) (from to : ℕ) → length front ≡ from → from + length a ≡ to → slice_range (front ++ (a ++ rest)) from to ≡ a
piece front a rest from to at end =
    let long : to - from ≡ length a = omega arith in
    (λ i. take (long i) (drop (sym at i) (front ++ (a ++ rest)))) ∙ ap (take (length a)) (drop-append_seam front (a ++ rest)) ∙ take-append_seam a rest

module _ (numbers a b c : List ℕ) (k : ℕ) (are : numbers ≡ a ++ (b ++ c)) (la : length a ≡ k) (lb : length b ≡ k) (lc : length c ≡ k) where
  first : slice_range numbers (0 * k) ((0 + 1) * k) ≡ a
  first = ap (λ l. slice_range l (0 * k) ((0 + 1) * k)) are ∙ piece [] a (b ++ c) (0 * k) ((0 + 1) * k) (omega arith) (omega (arith, la))

  second : slice_range numbers (1 * k) ((1 + 1) * k) ≡ b
  second = ap (λ l. slice_range l (1 * k) ((1 + 1) * k)) are ∙ piece a b c (1 * k) ((1 + 1) * k) (omega (arith, la)) (omega (arith, lb))

  third : slice_range numbers (2 * k) ((2 + 1) * k) ≡ c
  third =
      let again : numbers ≡ (a ++ b) ++ (c ++ []) = are ∙ sym (append_assoc a b c) ∙ ap (λ l. (a ++ b) ++ l) (sym (append-nil c)) in
      ap (λ l. slice_range l (2 * k) ((2 + 1) * k)) again ∙ piece (a ++ b) c [] (2 * k) ((2 + 1) * k) (omega (arith, la, lb, length-append a b)) (omega (arith, lc))

  -- three polynomials of k coefficients, joined, are the parts of k numbers
  pub joined_line : (points : List Point) → IsKeyLine a b c points k
      → IsKeyLine (slice_range numbers (0 * k) ((0 + 1) * k)) (slice_range numbers (1 * k) ((1 + 1) * k)) (slice_range numbers (2 * k) ((2 + 1) * k)) points k
  joined_line points line =
      subst (λ f. IsKeyLine f (slice_range numbers (1 * k) ((1 + 1) * k)) (slice_range numbers (2 * k) ((2 + 1) * k)) points k) (sym first)
      (subst (λ g. IsKeyLine a g (slice_range numbers (2 * k) ((2 + 1) * k)) points k) (sym second) (subst (λ h. IsKeyLine a b h points k) (sym third) line))

  -- there are 3k of them
  pub joined_length : length numbers ≡ 3 * k
  joined_length = omega (arith, ap length are, length-append a (b ++ c), length-append b c, la, lb, lc)
