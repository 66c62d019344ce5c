use Rattle.star_tool.proofs.MachineLaws.{streams_good, machines_merged, machines_opened, machines_order, machines_turned}
use Rattle.star_tool.proofs.laws.machines_agree.Goals as goal

pub returns-clause-good : goal.returns-clause-good
returns-clause-good c = streams_good

pub returns-clause-merged : goal.returns-clause-merged
returns-clause-merged c = machines_merged

pub returns-clause-opened : goal.returns-clause-opened
returns-clause-opened c = machines_opened

pub returns-clause-order : goal.returns-clause-order
returns-clause-order c = machines_order

pub returns-clause-turned : goal.returns-clause-turned
returns-clause-turned c = machines_turned
