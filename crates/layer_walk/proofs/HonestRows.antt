-- Rows with enough points of a context open to its value.
use Rattle.std.proofs.Common.{◌≡◌, suc, ◌+◌, ◌*◌, ◌<◌, ◌≤◌, List, [], ◌∷◌, inl, inr, refl, sym, ap, ◌∙◌, subst, map, length, arith, All}
use Rattle.std.specs.Prelude.{if◌then◌else◌}
use Rattle.std.proofs.lemmas.Bool.{le-ltb}
use Rattle.std.proofs.lemmas.List.Elements.{All-cons, All-nil}
use Rattle.field61.specs.declared.TheConstants.{MODULUS}
use Rattle.field61.specs.Field.{AreElements}
use Rattle.report_frame.specs.Laws.{InRange}
use Rattle.shamir_limbs.specs.declared.share.Point.{Point}
use Rattle.shamir_limbs.specs.KeyLine.{xs_of, AreDistinct}
use Rattle.shamir_limbs.specs.Search.{key_line_of}
use Rattle.adss_commit.specs.declared.context.Context.{Context}
use Rattle.adss_commit.specs.Derivation.{context_head}
use Rattle.adss_commit.proofs.Honest.{own_key, own_value}
use Rattle.star_lists.proofs.Elements.{In, from_filter}
use Rattle.star_lists.proofs.Inside.{from_map}
use Rattle.tag_groups.specs.Left.{point_of}
use Rattle.tag_groups.proofs.Left.{from_left}
use Rattle.tag_groups.proofs.LeftLaws.{distinct_left}
use Rattle.layer_walk.specs.declared.outcome.Outcome.TheVariants.{Opened, Few}
use Rattle.layer_walk.specs.Rows.{Row, same_group, members, points_left}
use Rattle.layer_walk.specs.Outcomes.{outcome_with, outcome_under, outcome_of, outcome_at}
use Rattle.layer_walk.specs.Laws.{honest, IsHonest}

honest_outcome : (c : Context) (points : List Point) → 1 ≤ c.k → AreElements (xs_of points) → AreDistinct (xs_of points) → c.k ≤ length points →
    length points + c.k ≤ 2 * honest c points →
    outcome_of c.epoch c.level c.parent (context_head c) points ≡ Opened c.value (honest c points)
unfolding outcome_of
honest_outcome c points low elements distinct many enough =
    ap (λ b. if b then Few else outcome_under c.epoch c.level c.parent (context_head c) (key_line_of points c.k)) (le-ltb (length points) c.k many)
    ∙ ap (outcome_under c.epoch c.level c.parent (context_head c)) (own_key c points low elements distinct many enough)
    ∙ ap (outcome_with (honest c points)) (own_value c)

all_elements : (points : List Point) → ((p : Point) → In p points → p.x < MODULUS) → AreElements (xs_of points)
all_elements [] f = All-nil (λ x. x < MODULUS)
all_elements (p ∷ points) f = All-cons (λ x. x < MODULUS) p.x (xs_of points) (f p (inl refl)) (all_elements points (λ q i. f q (inr i)))

in_from_all : (P : Row → Type 0) (rows : List Row) → All P rows → (r : Row) → In r rows → P r
in_from_all P [] h r i = absurd i
in_from_all P (x ∷ rows) h r (inl e) = subst P (sym e) (h 0 x (omega arith))
in_from_all P (x ∷ rows) h r (inr i) = in_from_all P rows (λ k d lt. h (suc k) d (omega (arith, lt))) r i

-- the points left of rows with frames are elements of the field
pub points_elements : (rows : List Row) (row : Row) → All (λ (r : Row). InRange r.frame) rows → AreElements (xs_of (points_left rows row))
points_elements rows row frames =
    all_elements (points_left rows row) (λ p i.
    let there = from_map (λ (r : Row). point_of r.frame) p (members rows row) (from_left (map (λ (r : Row). point_of r.frame) (members rows row)) p i).0 in
    let member = from_filter (same_group row) rows there.0 there.1 in
    let range : InRange there.0.frame = in_from_all (λ (r : Row). InRange r.frame) rows frames there.0 member.0 in
    subst (λ (q : Point). q.x < MODULUS) there.2 range.x_high)

-- honest points open to the honest value
pub honest_opens : (c : Context) (rows : List Row) (row : Row) → 1 ≤ c.k → All (λ (r : Row). InRange r.frame) rows → IsHonest c rows row →
    outcome_at c.epoch c.level rows row ≡ Opened c.value (honest c (points_left rows row))
unfolding outcome_at
honest_opens c rows row low frames h =
    (λ i. outcome_of c.epoch c.level (h.check i) (h.head i) (points_left rows row))
    ∙ honest_outcome c (points_left rows row) low (points_elements rows row frames) (distinct_left (map (λ (r : Row). point_of r.frame) (members rows row))) h.many h.enough
