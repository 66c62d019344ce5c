use Rattle.std.proofs.Common.{◌≤◌, ◌∷◌, [], ◌∙◌, length, sym, ap, subst}
use Rattle.layer_walk.specs.Outs.{group_check, group_points}
use Rattle.open_cert.specs.Made.{certified_under}
use Rattle.open_cert.proofs.Verdicts.{many_left}
use Rattle.open_cert.proofs.certified.certify.Goals as goal

pub cert_of-requires-clause-threshold : goal.cert_of-requires-clause-threshold
cert_of-requires-clause-threshold c =
    let level = c.args.level.now in
    let group = c.args.group.now in
    subst (λ points. group.head.k ≤ length points) (sym c.requires.points)
    (many_left level.epoch level.number (group_check level group) group.head (group_points level group) c.in-Opened.value c.in-Opened.agree (sym c.requires.out.outcome ∙ c.in-Opened.is))

pub returns : goal.returns
returns c =
    let level = c.args.level.now in
    let group = c.args.group.now in
    (λ i. record { told = record { path = c.group_path.ensures i; points = c.requires.out.points i; agree = c.in-Opened.agree; members = length (c.members.ensures i) }; cert = c.in_ok-cert.ensures i } ∷ [])
    ∙ ap (certified_under level group) (sym c.in-Opened.is)
