-- Points, and the points left of lists with the same ones.
use Rattle.std.proofs.Common.{◌≡◌, Bool, true, ◌&&◌, List, ap, eqb, eqb-true, eq-eqb}
use Rattle.std.specs.Str.{bytes_eq}
use Rattle.std.specs.Cmp.{first_so, second_so}
use Rattle.std.specs.Cmp.Lexicographic.{bytes_decides}
use Rattle.std.proofs.lemmas.Bool.{and_from}
use Rattle.shamir_limbs.specs.declared.share.Point.{Point}
use Rattle.star_lists.proofs.Elements.{In, in_from_Contains, Contains-from_in}
use Rattle.tag_groups.specs.Left.{points_left_of}
use Rattle.tag_groups.proofs.LeftLaws.{same_left}

-- the points have the same x and y
abbrev pub same_point : Point → Point → Bool
same_point p q = eqb p.x q.x && bytes_eq p.y q.y

pub same_point_is : (p q : Point) → same_point p q ≡ true → p ≡ q
same_point_is p q h =
    let x : p.x ≡ q.x = eqb-true p.x q.x (first_so (eqb p.x q.x) _ h) in
    let y : p.y ≡ q.y = (bytes_decides p.y q.y).0 (second_so (eqb p.x q.x) _ h) in
    λ i. record { x = x i; y = y i }

pub same_point_of : (p q : Point) → p ≡ q → same_point p q ≡ true
same_point_of p q e = and_from _ _ (eq-eqb p.x q.x (ap (λ (s : Point). s.x) e)) ((bytes_decides p.y q.y).1 (ap (λ (s : Point). s.y) e))

-- lists with the same points leave the same points
pub same_points_left : (xs ys : List Point) → ((p : Point) → In p xs → In p ys) → ((p : Point) → In p ys → In p xs) → points_left_of xs ≡ points_left_of ys
same_points_left xs ys f g =
    same_left xs ys (
      (λ p there. Contains-from_in ys p (f p (in_from_Contains xs p there))),
      (λ p there. Contains-from_in xs p (g p (in_from_Contains ys p there))),
    )
