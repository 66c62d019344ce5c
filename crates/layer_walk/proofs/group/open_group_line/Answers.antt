use Rattle.std.proofs.Common.{◌≡◌, ◌<◌, ◌≤◌, length, List, Some, None, IsNone, IfSome, IsSomeAnd, refl, ap, sym, ◌∙◌, subst, arith}
use Rattle.std.specs.Option.{option_map}
use Rattle.std.proofs.lemmas.Option.{get_or_from_slice_get}
use Rattle.shamir_limbs.specs.declared.recovery.KeyLine.{KeyLine}
use Rattle.shamir_limbs.specs.declared.share.Point.{Point}
use Rattle.shamir_limbs.specs.Search.{key_line_of}
use Rattle.tag_groups.specs.Laws.{rows_at}
use Rattle.tag_groups.specs.Left.{points_at, points_left_of}
use Rattle.layer_walk.specs.declared.group.GroupOut.{GroupOut}
use Rattle.layer_walk.specs.declared.keys.Keys.{Keys}
use Rattle.layer_walk.specs.declared.level.Parent.{Parent}
use Rattle.layer_walk.specs.declared.outcome.Outcome.TheVariants.{Opened, Few, NoLine, BadValue}
use Rattle.layer_walk.specs.Held.{HeldOf}
use Rattle.layer_walk.specs.Lines.{IsLine, HasLine}
use Rattle.layer_walk.specs.Outs.{IsOut, group_points, group_check, group_members, group_keys, parent_at}
use Rattle.layer_walk.specs.Reveal.{no_parent}
use Rattle.layer_walk.proofs.Opening.{few_out, no_line_out, line_outcome, keys_are, shut, open_out}
use Rattle.layer_walk.proofs.group.open_group_line.Goals as goal

pub returns-then-points-head-clause-out : goal.returns-then-points-head-clause-out
returns-then-points-head-clause-out c =
    let level = c.args.level.now in
    let group = c.args.group.now in
    let left = c.in_ok-left.left in
    let head = c.head-head.result.now in
    let at : left ≡ group_points level group = c.in_ok-left.ensures.points ∙ ap (λ rows. points_left_of (points_at rows group.members)) c.as_slice-rows.ensures in
    let few : length left < head.k = omega (arith, ap length c.as_slice-points.ensures, c.if-points-head.true) in
    subst (IsOut level group) (sym c.closed.ensures.out) (few_out level group left head at c.head-head.ensures.head few)

pub returns-then-points-head-clause-points : goal.returns-then-points-head-clause-points
returns-then-points-head-clause-points c =
    let level = c.args.level.now in
    let group = c.args.group.now in
    let left = c.in_ok-left.left in
    let at : left ≡ group_points level group = c.in_ok-left.ensures.points ∙ ap (λ rows. points_left_of (points_at rows group.members)) c.as_slice-rows.ensures in
    c.closed.ensures.points ∙ at

pub returns-then-points-head-clause-line : goal.returns-then-points-head-clause-line
returns-then-points-head-clause-line c =
    let level = c.args.level.now in
    let group = c.args.group.now in
    let out : c.closed.result.out.outcome ≡ Few = ap (λ (out : GroupOut). out.outcome) c.closed.ensures.out in
    subst (HasLine (group_points level group) group.head.k c.closed.result.line) (sym out) (subst (λ line. IsNone line) (sym c.closed.ensures.line) refl)

pub returns-in_default-clause-out : goal.returns-in_default-clause-out
returns-in_default-clause-out c =
    let level = c.args.level.now in
    let group = c.args.group.now in
    let left = c.in_ok-left.left in
    let head = c.head-head.result.now in
    let at : left ≡ group_points level group = c.in_ok-left.ensures.points ∙ ap (λ rows. points_left_of (points_at rows group.members)) c.as_slice-rows.ensures in
    let many : head.k ≤ length left = omega (arith, ap length c.as_slice-points.ensures, c.if-points-head.false) in
    let none : key_line_of left head.k ≡ None =
    ap (λ (points : List Point). key_line_of points head.k) (sym c.as_slice-points.ensures) ∙ sym c.in_ok-line.ensures.found ∙ ap (option_map (λ (l : KeyLine). l.found)) c.in_default.is in
    subst (IsOut level group) (sym c.closed-in_default.ensures.out) (no_line_out level group left head at c.head-head.ensures.head many none)

pub returns-in_default-clause-points : goal.returns-in_default-clause-points
returns-in_default-clause-points c =
    let level = c.args.level.now in
    let group = c.args.group.now in
    let left = c.in_ok-left.left in
    let at : left ≡ group_points level group = c.in_ok-left.ensures.points ∙ ap (λ rows. points_left_of (points_at rows group.members)) c.as_slice-rows.ensures in
    c.closed-in_default.ensures.points ∙ at

pub returns-in_default-clause-line : goal.returns-in_default-clause-line
returns-in_default-clause-line c =
    let level = c.args.level.now in
    let group = c.args.group.now in
    let out : c.closed-in_default.result.out.outcome ≡ NoLine = ap (λ (out : GroupOut). out.outcome) c.closed-in_default.ensures.out in
    subst (HasLine (group_points level group) group.head.k c.closed-in_default.result.line) (sym out) (subst (λ line. IsNone line) (sym c.closed-in_default.ensures.line) refl)

pub returns-in_default-open_value-clause-out : goal.returns-in_default-open_value-clause-out
returns-in_default-open_value-clause-out c =
    let level = c.args.level.now in
    let group = c.args.group.now in
    let left = c.in_ok-left.left in
    let head = c.head-head.result.now in
    let at : left ≡ group_points level group = c.in_ok-left.ensures.points ∙ ap (λ rows. points_left_of (points_at rows group.members)) c.as_slice-rows.ensures in
    let many : head.k ≤ length left = omega (arith, ap length c.as_slice-points.ensures, c.if-points-head.false) in
    let found = c.in-Some.line.found in
    let line : key_line_of left head.k ≡ Some found =
    ap (λ (points : List Point). key_line_of points head.k) (sym c.as_slice-points.ensures) ∙ sym c.in_ok-line.ensures.found ∙ ap (option_map (λ (l : KeyLine). l.found)) c.in-Some.is in
    let parent : c.get-parent.result.now ≡ parent_at level.parents group.parent =
    sym (get_or_from_slice_get level.parents c.parent.result c.get-parent.result.now no_parent c.get-parent.ensures) ∙ ap (parent_at level.parents) c.parent.ensures in
    let check : c.get-parent.result.now.check ≡ group_check level group = ap (λ (p : Parent). p.check) parent in
    subst (IsOut level group) (sym c.closed-in_default-open_value.ensures.out)
    (shut level group BadValue left at
    (line_outcome level group left head found c.get-parent.result.now.check None at c.head-head.ensures.head check many line
    (sym c.open_value.ensures.opened ∙ c.in_default-open_value.is))
    refl)

pub returns-in_default-open_value-clause-points : goal.returns-in_default-open_value-clause-points
returns-in_default-open_value-clause-points c =
    let level = c.args.level.now in
    let group = c.args.group.now in
    let left = c.in_ok-left.left in
    let at : left ≡ group_points level group = c.in_ok-left.ensures.points ∙ ap (λ rows. points_left_of (points_at rows group.members)) c.as_slice-rows.ensures in
    c.closed-in_default-open_value.ensures.points ∙ at

pub returns-in_default-open_value-clause-line : goal.returns-in_default-open_value-clause-line
returns-in_default-open_value-clause-line c =
    let level = c.args.level.now in
    let group = c.args.group.now in
    let out : c.closed-in_default-open_value.result.out.outcome ≡ BadValue = ap (λ (out : GroupOut). out.outcome) c.closed-in_default-open_value.ensures.out in
    subst (HasLine (group_points level group) group.head.k c.closed-in_default-open_value.result.line) (sym out) (subst (λ line. IsNone line) (sym c.closed-in_default-open_value.ensures.line) refl)

pub returns-clause-out : goal.returns-clause-out
returns-clause-out c =
    let level = c.args.level.now in
    let group = c.args.group.now in
    let left = c.in_ok-left.left in
    let head = c.head-head.result.now in
    let at : left ≡ group_points level group = c.in_ok-left.ensures.points ∙ ap (λ rows. points_left_of (points_at rows group.members)) c.as_slice-rows.ensures in
    let many : head.k ≤ length left = omega (arith, ap length c.as_slice-points.ensures, c.if-points-head.false) in
    let found = c.in-Some.line.found in
    let line : key_line_of left head.k ≡ Some found =
    ap (λ (points : List Point). key_line_of points head.k) (sym c.as_slice-points.ensures) ∙ sym c.in_ok-line.ensures.found ∙ ap (option_map (λ (l : KeyLine). l.found)) c.in-Some.is in
    let parent : c.get-parent.result.now ≡ parent_at level.parents group.parent =
    sym (get_or_from_slice_get level.parents c.parent.result c.get-parent.result.now no_parent c.get-parent.ensures) ∙ ap (parent_at level.parents) c.parent.ensures in
    let check : c.get-parent.result.now.check ≡ group_check level group = ap (λ (p : Parent). p.check) parent in
    let value = c.in-Some-open_value.value in
    let under = sym c.open_value.ensures.opened ∙ c.in-Some-open_value.is in
    let keys : Keys = record { seal = c.seal_key.result; body = c.body_key.result; version = head.version; epoch = level.epoch; level = level.number } in
    let same : keys ≡ group_keys level group value =
    (λ i. record { seal = c.seal_key.ensures i; body = c.body_key.ensures i; version = head.version; epoch = level.epoch; level = level.number })
    ∙ keys_are level group head found.key c.get-parent.result.now.check value c.head-head.ensures.head check under in
    let rows : rows_at c.as_slice-rows.result.now c.members.result.now ≡ group_members level group = λ i. rows_at (c.as_slice-rows.ensures i) (c.members.ensures i) in
    subst (IsOut level group) (sym c.opened.ensures.out)
    (open_out level group left keys value found.agree c.in_ok-held.held at
    (line_outcome level group left head found c.get-parent.result.now.check (Some value) at c.head-head.ensures.head check many line under)
    same (subst (λ members. HeldOf keys members c.in_ok-held.held) rows c.in_ok-held.ensures))

pub returns-clause-points : goal.returns-clause-points
returns-clause-points c =
    let level = c.args.level.now in
    let group = c.args.group.now in
    let left = c.in_ok-left.left in
    let at : left ≡ group_points level group = c.in_ok-left.ensures.points ∙ ap (λ rows. points_left_of (points_at rows group.members)) c.as_slice-rows.ensures in
    c.opened.ensures.points ∙ at

pub returns-clause-line : goal.returns-clause-line
returns-clause-line c =
    let level = c.args.level.now in
    let group = c.args.group.now in
    let left = c.in_ok-left.left in
    let head = c.head-head.result.now in
    let at : left ≡ group_points level group = c.in_ok-left.ensures.points ∙ ap (λ rows. points_left_of (points_at rows group.members)) c.as_slice-rows.ensures in
    let line = c.in-Some.line in
    let value = c.in-Some-open_value.value in
    let out : c.opened.result.out.outcome ≡ Opened value line.found.agree = ap (λ (out : GroupOut). out.outcome) c.opened.ensures.out in
    let of_left : IsLine c.as_slice-points.result.now head.k line = subst (λ found. IfSome found (IsLine c.as_slice-points.result.now head.k)) c.in-Some.is c.in_ok-line.ensures.line in
    let of_group : IsLine (group_points level group) group.head.k line = subst (λ k. IsLine (group_points level group) k line) (ap (λ h. h.k) c.head-head.ensures.head) (subst (λ points. IsLine points head.k line) (c.as_slice-points.ensures ∙ at) of_left) in
    subst (HasLine (group_points level group) group.head.k c.opened.result.line) (sym out) (subst (λ found. IsSomeAnd found (IsLine (group_points level group) group.head.k)) (sym c.opened.ensures.line) of_group)
