use Rattle.std.proofs.Common.{◌∙◌, ap}
use Rattle.tag_groups.specs.Grouped.{groups_of}
use Rattle.tag_groups.proofs.grouper.Grouper.finish.Goals as goal

pub returns-clause-groups : goal.returns-clause-groups
returns-clause-groups c = c.from_vec-2.ensures ∙ c.self.invariant.groups_are ∙ ap groups_of c.self.view_is
