use Rattle.std.proofs.Common.{◌≡◌, ◌∙◌, sym, ap, subst}
use Rattle.std.proofs.lemmas.Option.{get_or_from_slice_get}
use Rattle.shamir_limbs.specs.KeyLine.{AreDistinct, xs_of}
use Rattle.shamir_limbs.specs.Numbers.{line_numbers}
use Rattle.tag_groups.specs.Left.{points_at}
use Rattle.tag_groups.proofs.LeftLaws.{distinct_left}
use Rattle.layer_walk.specs.declared.level.Parent.{Parent}
use Rattle.layer_walk.specs.Outs.{group_check, group_points, parent_at}
use Rattle.layer_walk.specs.Reveal.{no_parent}
use Rattle.open_cert.proofs.certified.cert_of.Goals as goal

pub numbers_of-requires-clause-distinct : goal.numbers_of-requires-clause-distinct
numbers_of-requires-clause-distinct c =
    subst (λ points. AreDistinct (xs_of points)) (sym (c.as_slice.ensures ∙ c.requires.points)) (distinct_left (points_at c.args.level.now.rows c.args.group.now.members))

pub returns : goal.returns
returns c =
    let level = c.args.level.now in
    let group = c.args.group.now in
    let parent : c.get.result.now ≡ parent_at level.parents group.parent =
    sym (get_or_from_slice_get level.parents c.parent.result c.get.result.now no_parent c.get.ensures) ∙ ap (parent_at level.parents) c.parent.ensures in
    let check : c.get.result.now.check ≡ group_check level group = ap (λ (p : Parent). p.check) parent in
    let head : c.head-head.result.now ≡ group.head = c.head-head.ensures.head in
    let seen : c.as_slice.result.now ≡ group_points level group = c.as_slice.ensures ∙ c.requires.points in
    let points : c.from_vec.result ≡ group_points level group = c.from_vec.ensures ∙ c.into_vec.ensures ∙ c.requires.points in
    let numbers : c.from_vec-2.result ≡ line_numbers (group_points level group) group.head.k =
    c.from_vec-2.ensures ∙ c.in_ok-numbers.ensures ∙ (λ i. line_numbers (seen i) (head i).k) in
    λ i. record { level = level.number; epoch = level.epoch; parent = check i; head = (c.copy_head.ensures ∙ head) i; points = points i; numbers = numbers i }
