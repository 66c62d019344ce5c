use Rattle.std.proofs.Common.{◌≡◌, ◌≤◌, ◌∙◌, ap, arith}
use Rattle.report_frame.specs.declared.limits.TheConstants.{MAX_LEVEL_TWO}
use Rattle.tag_groups.specs.Grouped.{groups_of}
use Rattle.layer_walk.specs.declared.level.Level.{Level}
use Rattle.layer_walk.proofs.Fits.{groups_fit}
use Rattle.star_tool.proofs.tests_levels.the_level_after_has_what_opened_groups_hold.Goals as goal

pub outs_of-requires : goal.outs_of-requires
outs_of-requires g c =
    let level = c.in_ok-level.level in
    let zero : level.number ≡ 0 = ap (λ (l : Level). l.number) c.in_ok-level.ensures.zero in
    let number : level.number ≤ MAX_LEVEL_TWO = omega (arith, zero) in
    groups_fit level c.in_ok-groups.groups c.in_ok-level.ensures.good number (c.in_ok-groups.ensures ∙ ap groups_of c.as_slice.ensures)
