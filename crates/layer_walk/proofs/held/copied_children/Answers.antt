use Rattle.std.proofs.Common.{◌<◌, length, take, arith, sym, ◌∙◌, subst}
use Rattle.std.proofs.lemmas.List.{length-take, take_all}
use Rattle.tag_groups.specs.Grouped.{group_of}
use Rattle.layer_walk.specs.Rows.{first_members}
use Rattle.layer_walk.specs.Outs.{IsOut}
use Rattle.layer_walk.specs.Made.{named}
use Rattle.layer_walk.specs.Kept.{AreChildren, AdoptsMore}
use Rattle.layer_walk.proofs.Making.{children_more, few_children}
use Rattle.layer_walk.proofs.Next.{outs_few}
use Rattle.layer_walk.proofs.Pairs.{zip_lengths}
use Rattle.layer_walk.proofs.Telling.{out_at, outs_count}
use Rattle.layer_walk.proofs.held.copied_children.Goals as goal

pub get-requires : goal.get-requires
get-requires c = omega (arith, c.loop-i-test.true, zip_lengths (IsOut c.args.level.now) c.args.groups.now c.args.outs.now c.requires.outs)

pub adopt_group-requires-clause-parent : goal.adopt_group-requires-clause-parent
adopt_group-requires-clause-parent c =
    let level = c.args.level.now in
    let here = out_at level c.requires.level c.args.groups.now c.requires.groups c.args.outs.now c.requires.outs c.loop-i.i
    c.index-outs-i.result
    c.loop-i-test.true c.index-outs-i.is in
    subst (λ g. g.parent < length level.parents) (sym (here.group c.get.result.now c.get.ensures)) here.inside

pub adopt_group-requires-clause-few : goal.adopt_group-requires-clause-few
adopt_group-requires-clause-few c =
    let level = c.args.level.now in
    let few = outs_few level c.args.groups.now c.args.outs.now c.requires.level c.requires.groups c.requires.outs in
    let held = few_children level (take c.loop-i.i (first_members (named level))) c.loop-i.children.parents c.loop-i.children.rows.items
    c.loop-i.invariant in
    omega (arith, few, held, c.loop-i-test.true, length-take c.loop-i.i (first_members (named level)))

pub loop-i-preserved : goal.loop-i-preserved
loop-i-preserved c =
    let level = c.args.level.now in
    let here = out_at level c.requires.level c.args.groups.now c.requires.groups c.args.outs.now c.requires.outs c.loop-i.i
    c.index-outs-i.result
    c.loop-i-test.true c.index-outs-i.is in
    let out = c.index-outs-i.result in
    let more : AdoptsMore level (group_of level.rows here.first) out.outcome out.inner c.loop-i.children c.adopt_group.new.children =
    subst (λ g. AdoptsMore level g out.outcome out.inner c.loop-i.children c.adopt_group.new.children)
    (here.group c.get.result.now c.get.ensures)
    (subst (λ inners. AdoptsMore level c.get.result.now out.outcome inners c.loop-i.children c.adopt_group.new.children)
    (c.in_ok-inners.ensures ∙ c.as_slice.ensures) c.in_ok-adopt_group.ensures) in
    subst (λ firsts. AreChildren level firsts c.adopt_group.new.children.parents c.adopt_group.new.children.rows.items) (sym here.more)
    (children_more level c.requires.level here.first here.inside (take c.loop-i.i (first_members (named level))) out here.is_out
    c.loop-i.children c.adopt_group.new.children c.loop-i.invariant more)

pub returns : goal.returns
returns c =
    let level = c.args.level.now in
    let count = outs_count level c.requires.level c.args.groups.now c.requires.groups c.args.outs.now c.requires.outs in
    subst (λ firsts. AreChildren level firsts c.loop-i.children.parents c.loop-i.children.rows.items)
    (take_all c.loop-i.i (first_members (named level)) (omega (arith, c.loop-i-test.false, count))) c.loop-i.invariant
