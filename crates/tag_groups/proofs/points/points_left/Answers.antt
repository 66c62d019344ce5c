use Rattle.std.proofs.Common.{◌≤◌, ◌∙◌, sym, ap, subst, length, List}
use Rattle.shamir_limbs.specs.KeyLine.{AreDistinct, xs_of}
use Rattle.shamir_limbs.specs.declared.share.Point.{Point}
use Rattle.tag_groups.specs.Left.{points_left_of, points_at}
use Rattle.tag_groups.proofs.LeftLaws.{few_of_members, distinct_left}
use Rattle.tag_groups.proofs.points.points_left.Goals as goal

pub returns-clause-few : goal.returns-clause-few
returns-clause-few c =
    let is = c.from_vec.ensures ∙ c.in_ok-items.ensures ∙ ap points_left_of (c.in_ok-points.ensures ∙ ap (points_at c.args.rows.now) c.members.ensures) in
    subst (λ (l : List Point). length l ≤ length c.args.group.now.members) (sym is) (few_of_members c.args.rows.now c.args.group.now.members)

pub returns-clause-distinct : goal.returns-clause-distinct
returns-clause-distinct c =
    let is = c.from_vec.ensures ∙ c.in_ok-items.ensures ∙ ap points_left_of (c.in_ok-points.ensures ∙ ap (points_at c.args.rows.now) c.members.ensures) in
    subst (λ (l : List Point). AreDistinct (xs_of l)) (sym is) (distinct_left (points_at c.args.rows.now c.args.group.now.members))
