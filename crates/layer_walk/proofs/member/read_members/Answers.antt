use Rattle.std.proofs.Common.{◌≡◌, ap, ◌∙◌, subst, take, length, arith}
use Rattle.std.proofs.Math.Seq.{take-length}
use Rattle.tag_groups.specs.Laws.{rows_at}
use Rattle.layer_walk.specs.Held.{HeldOf}
use Rattle.layer_walk.proofs.Members.{rows_more, held_more}
use Rattle.layer_walk.proofs.member.read_members.Goals as goal

pub loop-place-preserved : goal.loop-place-preserved
loop-place-preserved c =
    held_more c.args.keys.now _ _ c.index-rows-place.result c.loop-place.held _
    (rows_more c.args.rows.now c.args.members.now c.loop-place.place-index c.index-rows-place.result c.loop-place-test.true (c.requires.members c.loop-place.place-index 0 c.loop-place-test.true) c.index-rows-place.is)
    c.loop-place.invariant c.in_ok-read_member.ensures

pub returns : goal.returns
returns c =
    let all : c.loop-place.place-index ≡ length c.args.members.now = omega arith in
    subst (λ ms. HeldOf c.args.keys.now (rows_at c.args.rows.now ms) c.loop-place.held) (ap (λ n. take n c.args.members.now) all ∙ take-length c.args.members.now) c.loop-place.invariant
