use Rattle.adss_commit.proofs.Honest.{answer_is_opened}
use Rattle.adss_commit.proofs.boxes.open_value.Goals as goal

pub returns-clause-opened : goal.returns-clause-opened
returns-clause-opened c =
    answer_is_opened c.value_in.result c.args.key.now c.args.head.now c.args.parent.now c.args.epoch c.args.level c.value_in.ensures.value c.value_in.ensures.found
