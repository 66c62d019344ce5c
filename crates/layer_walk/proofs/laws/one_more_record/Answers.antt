use Rattle.layer_walk.proofs.OuterRows.{rows_more, refusals_more}
use Rattle.layer_walk.proofs.laws.one_more_record.Goals as goal

pub returns-clause-rows : goal.returns-clause-rows
returns-clause-rows c = rows_more

pub returns-clause-refusals : goal.returns-clause-refusals
returns-clause-refusals c = refusals_more
