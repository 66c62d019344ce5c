-- All points are left if no two have the same x.
use Rattle.std.proofs.Common.{◌≡◌, true, false, not, ◌||◌, List, [], ◌∷◌, ◌⊎◌, inl, inr, refl, sym, ap, ◌∙◌, length, eqb, eqb-true}
use Rattle.std.specs.Cmp.Lexicographic.{bytes_decides}
use Rattle.std.specs.Str.{bytes_eq}
use Rattle.std.specs.declared.cmp.Ordering.TheVariants.{Equal}
use Rattle.std.proofs.lemmas.Bool.{or_right}
use Rattle.shamir_limbs.specs.declared.share.Point.{Point}
use Rattle.star_lists.specs.Ascending.{ascending}
use Rattle.star_lists.proofs.Elements.{In, Pairwise, of_all, all_of, true_all, filter_whole}
use Rattle.star_lists.proofs.Ascending.{from_ascending, length_ascending}
use Rattle.tag_groups.specs.Left.{x_cmp, is_lone, points_left_of}
use Rattle.tag_groups.proofs.Left.{x_total, x_equal}

-- what two elements of a list of which no two have the same x are
same_or_apart : (points : List Point) → Pairwise (λ (p q : Point). p.x ≡ q.x → ⊥) points → (p q : Point) → In p points → In q points → (p ≡ q) ⊎ (p.x ≡ q.x → ⊥)
same_or_apart [] h p q i j = absurd i
same_or_apart (r ∷ points) h p q (inl e) (inl f) = inl (e ∙ sym f)
same_or_apart (r ∷ points) h p q (inl e) (inr j) = inr (λ s. of_all (λ (q : Point). r.x ≡ q.x → ⊥) points h.0 q j (ap (λ (t : Point). t.x) (sym e) ∙ s))
same_or_apart (r ∷ points) h p q (inr i) (inl f) = inr (λ s. of_all (λ (q : Point). r.x ≡ q.x → ⊥) points h.0 p i (ap (λ (t : Point). t.x) (sym f) ∙ sym s))
same_or_apart (r ∷ points) h p q (inr i) (inr j) = same_or_apart points h.1 p q i j

all_lone : (points : List Point) → Pairwise (λ (p q : Point). p.x ≡ q.x → ⊥) points → (p : Point) → In p points → is_lone points p ≡ true
all_lone points h p i =
    true_all (λ (q : Point). not (eqb q.x p.x) || bytes_eq q.y p.y) points (λ q j. elim (same_or_apart points h q p j i) [
      | inl e ↦ or_right (not (eqb q.x p.x)) (bytes_eq q.y p.y) ((bytes_decides q.y p.y).1 (ap (λ (t : Point). t.y) e))
      | inr apart ↦ elim (eqb q.x p.x) as (λ b. eqb q.x p.x ≡ b → (not b || bytes_eq q.y p.y) ≡ true) [
        | true ↦ λ e. absurd (apart (eqb-true q.x p.x e))
        | false ↦ λ e. refl
      ] refl
    ])

no_ties : (points : List Point) → Pairwise (λ (p q : Point). p.x ≡ q.x → ⊥) points → Pairwise (λ p q. x_cmp p q ≡ Equal → ⊥) points
no_ties [] h = tt
no_ties (p ∷ points) h = (all_of (λ q. x_cmp p q ≡ Equal → ⊥) points (λ q i e. of_all (λ (q : Point). p.x ≡ q.x → ⊥) points h.0 q i (x_equal p q e)), no_ties points h.1)

-- all are left if no two have the same x
pub all_left : (points : List Point) → Pairwise (λ (p q : Point). p.x ≡ q.x → ⊥) points → length (points_left_of points) ≡ length points
unfolding points_left_of
all_left points h =
    ap length (filter_whole (is_lone points) (ascending x_cmp points) (λ p i. all_lone points h p (from_ascending x_cmp x_total p points i)))
    ∙ length_ascending x_cmp x_total points (no_ties points h)
