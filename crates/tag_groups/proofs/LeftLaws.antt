-- Laws of the points left.
use Rattle.std.proofs.Common.{◌≡◌, ℕ, ◌<◌, ◌≤◌, List, [], length, sym, ◌∙◌, arith, get_or}
use Rattle.std.proofs.Math.ListN.{get_or-map}
use Rattle.std.proofs.lemmas.List.{length-map}
use Rattle.std.proofs.lemmas.Map.Keys.{Less-from_sorted}
use Rattle.std.specs.Ordering.{nat_cmp}
use Rattle.std.specs.declared.cmp.Ordering.TheVariants.{Less}
use Rattle.shamir_limbs.specs.KeyLine.{AreDistinct, xs_of}
use Rattle.shamir_limbs.specs.declared.share.Point.{Point}
use Rattle.tag_groups.specs.RowView.{RowView}
use Rattle.tag_groups.specs.Laws.{IsLeft}
use Rattle.tag_groups.specs.Left.{x_cmp, is_lone, points_left_of, points_at}
use Rattle.tag_groups.proofs.Left.{x_total, spares, in_left, from_left, rising_left}
use Rattle.star_lists.proofs.Rising.{same_rising}
use Rattle.star_lists.proofs.Elements.{In, in_from_Contains, Contains-from_in, same_all, filter_fewer, filter_map_fewer}
use Rattle.star_lists.specs.Ascending.{ascending}
use Rattle.star_lists.specs.Elements.{SameElements}
use Rattle.star_lists.proofs.Ascending.{ascending_fewer}

-- no two points left have one x
pub distinct_left : (points : List Point) → AreDistinct (xs_of (points_left_of points))
distinct_left points i j lt below same =
    let left : List Point = points_left_of points in
    let zero_point : Point = record { x = 0; y = [] } in
    let inside : j < length left = omega (arith, below, length-map left (λ (p : Point). p.x)) in
    let up : x_cmp (get_or left i zero_point) (get_or left j zero_point) ≡ Less = Less-from_sorted x_cmp left i j zero_point (rising_left points) lt inside in
    let ats : (get_or left i zero_point).x ≡ (get_or left j zero_point).x =
    sym (get_or-map (λ (p : Point). p.x) left i zero_point) ∙ same ∙ get_or-map (λ (p : Point). p.x) left j zero_point in
    unequal (get_or left i zero_point).x (get_or left j zero_point).x up ats
  where
    unequal : (a b : ℕ) → nat_cmp a b ≡ Less → a ≡ b → ⊥
    unequal a b u e = grind arith

-- there are at most as many points left as points
pub few_left : (points : List Point) → length (points_left_of points) ≤ length points
unfolding points_left_of
few_left points = omega (arith, filter_fewer (is_lone points) (ascending x_cmp points), ascending_fewer x_cmp points)

-- nor more than members
pub few_of_members : (rows : List RowView) (members : List ℕ) → length (points_left_of (points_at rows members)) ≤ length members
few_of_members rows members =
    let left : length (points_left_of (points_at rows members)) ≤ length (points_at rows members) = few_left (points_at rows members) in
    let all : length (points_at rows members) ≤ length members = filter_map_fewer _ members in
    omega (arith, left, all)

-- the points left are those that have their x for themselves
pub is_left : (points : List Point) (p : Point) → IsLeft points p
is_left points p = (
  (λ there. let h = from_left points p (in_from_Contains (points_left_of points) p there) in (Contains-from_in points p h.0, h.1)),
  (λ h. Contains-from_in (points_left_of points) p (in_left points p (in_from_Contains points p h.0) h.1)),
)

-- neither the order of the points nor how often one occurs counts
pub same_left : (xs ys : List Point) → SameElements xs ys → points_left_of xs ≡ points_left_of ys
same_left xs ys same =
    let to : (z : Point) → In z xs → In z ys = λ z i. in_from_Contains ys z (same.0 z (Contains-from_in xs z i)) in
    let back : (z : Point) → In z ys → In z xs = λ z i. in_from_Contains xs z (same.1 z (Contains-from_in ys z i)) in
    let alike : (z : Point) → is_lone xs z ≡ is_lone ys z = λ z. same_all (spares z) xs ys to back in
    same_rising x_cmp x_total (points_left_of xs) (points_left_of ys) (rising_left xs) (rising_left ys)
    (λ z i. let h = from_left xs z i in in_left ys z (to z h.0) (sym (alike z) ∙ h.1))
    (λ z i. let h = from_left ys z i in in_left xs z (back z h.0) (alike z ∙ h.1))
