use Rattle.std.proofs.Common.{◌<◌, ◌∷◌, [], length, length-append, take, get_or, arith, sym, ap, ◌∙◌, subst}
use Rattle.std.proofs.lemmas.List.{length-take, take_all}
use Rattle.std.proofs.lemmas.Iterator.Adapters.{YieldsList-from_vec}
use Rattle.std.proofs.lemmas.Iterator.Consumers.{YieldsList-turn, YieldsList-end}
use Rattle.layer_walk.specs.Rows.{first_members}
use Rattle.layer_walk.specs.Outs.{IsOut}
use Rattle.layer_walk.specs.Made.{named}
use Rattle.layer_walk.specs.Kept.{IsHeld, HoldsMore}
use Rattle.layer_walk.proofs.Making.{few_children, held_more}
use Rattle.layer_walk.proofs.Next.{outs_few}
use Rattle.layer_walk.proofs.Pairs.{zip_lengths}
use Rattle.layer_walk.proofs.Telling.{out_at, outs_count}
use Rattle.layer_walk.proofs.held.held_by.Goals as goal

pub get-requires : goal.get-requires
get-requires c =
    let gives = c.into_iter-out-iterator.ensures.into_iter_gives in
    let turn = YieldsList-turn (YieldsList-from_vec c.args.outs.items gives.0 (gives.1 ∙ c.args.outs.ok.0)) c.loop-out.yielded
    c.loop-out.out-iterator
    c.loop-out.yielded_by c.next.result c.next.new.self c.in-Some.out c.in-Some.is c.next.ensures.steps in
    let lt : c.loop-out.i < length c.args.outs.items = omega (arith, turn.0, c.loop-out.invariant.0) in
    omega (arith, lt, zip_lengths (IsOut c.args.level.now) c.args.groups.now c.args.outs.items c.requires.outs)

pub hold-requires-clause-parent : goal.hold-requires-clause-parent
hold-requires-clause-parent c =
    let gives = c.into_iter-out-iterator.ensures.into_iter_gives in
    let turn = YieldsList-turn (YieldsList-from_vec c.args.outs.items gives.0 (gives.1 ∙ c.args.outs.ok.0)) c.loop-out.yielded
    c.loop-out.out-iterator
    c.loop-out.yielded_by c.next.result c.next.new.self c.in-Some.out c.in-Some.is c.next.ensures.steps in
    let lt : c.loop-out.i < length c.args.outs.items = omega (arith, turn.0, c.loop-out.invariant.0) in
    let here = out_at c.args.level.now c.requires.level c.args.groups.now c.requires.groups c.args.outs.items c.requires.outs
    c.loop-out.i c.in-Some.out lt
    (turn.1 ∙ ap (λ n. get_or c.args.outs.items n c.in-Some.out) (sym c.loop-out.invariant.0)) in
    subst (λ g. g.parent < length c.args.level.now.parents) (sym (here.group c.get.result.now c.get.ensures)) here.inside

pub hold-requires-clause-few : goal.hold-requires-clause-few
hold-requires-clause-few c =
    let gives = c.into_iter-out-iterator.ensures.into_iter_gives in
    let turn = YieldsList-turn (YieldsList-from_vec c.args.outs.items gives.0 (gives.1 ∙ c.args.outs.ok.0)) c.loop-out.yielded
    c.loop-out.out-iterator
    c.loop-out.yielded_by c.next.result c.next.new.self c.in-Some.out c.in-Some.is c.next.ensures.steps in
    let lt : c.loop-out.i < length c.args.outs.items = omega (arith, turn.0, c.loop-out.invariant.0) in
    let level = c.args.level.now in
    let few = outs_few level c.args.groups.now c.args.outs.items c.requires.level c.requires.groups c.requires.outs in
    let held = few_children level (take c.loop-out.i (first_members (named level))) c.loop-out.held.children.parents
    c.loop-out.held.children.rows.items
    c.loop-out.invariant.1.children in
    omega (arith, few, held, lt, length-take c.loop-out.i (first_members (named level)))

pub loop-out-preserved : goal.loop-out-preserved
loop-out-preserved c =
    let gives = c.into_iter-out-iterator.ensures.into_iter_gives in
    let turn = YieldsList-turn (YieldsList-from_vec c.args.outs.items gives.0 (gives.1 ∙ c.args.outs.ok.0)) c.loop-out.yielded
    c.loop-out.out-iterator
    c.loop-out.yielded_by c.next.result c.next.new.self c.in-Some.out c.in-Some.is c.next.ensures.steps in
    let lt : c.loop-out.i < length c.args.outs.items = omega (arith, turn.0, c.loop-out.invariant.0) in
    let here = out_at c.args.level.now c.requires.level c.args.groups.now c.requires.groups c.args.outs.items c.requires.outs
    c.loop-out.i c.in-Some.out lt
    (turn.1 ∙ ap (λ n. get_or c.args.outs.items n c.in-Some.out) (sym c.loop-out.invariant.0)) in
    let level = c.args.level.now in
    let more = subst (λ g. HoldsMore level g c.in-Some.out c.loop-out.held c.hold.new.held) (here.group c.get.result.now c.get.ensures)
    c.in_ok-hold.ensures in (
      omega (arith, c.loop-out.invariant.0, length-append c.loop-out.yielded (c.in-Some.out ∷ [])),
      subst (λ firsts. IsHeld level firsts c.hold.new.held) (sym here.more)
          (held_more level c.requires.level here.first here.inside (take c.loop-out.i (first_members (named level))) c.in-Some.out
          here.is_out
          c.loop-out.held c.hold.new.held c.loop-out.invariant.1 more),
    )

pub returns : goal.returns
returns c =
    let level = c.args.level.now in
    let gives = c.into_iter-out-iterator.ensures.into_iter_gives in
    let end = YieldsList-end (YieldsList-from_vec c.args.outs.items gives.0 (gives.1 ∙ c.args.outs.ok.0)) c.loop-out.yielded
    c.loop-out.out-iterator
    c.loop-out.yielded_by c.next.result c.next.new.self c.in-None.is c.next.ensures.steps in
    let count = outs_count level c.requires.level c.args.groups.now c.requires.groups c.args.outs.items c.requires.outs in
    subst (λ firsts. IsHeld level firsts c.loop-out.held)
    (take_all c.loop-out.i (first_members (named level)) (omega (arith, c.loop-out.invariant.0, end.1, count))) c.loop-out.invariant.1
