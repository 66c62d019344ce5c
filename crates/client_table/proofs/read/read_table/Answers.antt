use Rattle.std.proofs.Common.{ℕ, List, subst}
use Rattle.report_frame.specs.declared.version.Version.TheVariants.{One}
use Rattle.client_table.specs.Answer.{IsAnswer}
use Rattle.client_table.specs.Table.{table_of}
use Rattle.client_table.proofs.Outcomes.{answer-bad, answer-good, answer-too_many, answer-width}
use Rattle.client_table.proofs.read.read_table.Goals as goal

-- what is returned for the records of the text
answer : (c : goal.Joined-records) → IsAnswer One c.args.width (table_of c.args.bytes.now) (table_of c.args.bytes.now) c.read_rows.result
answer c = subst (λ (rows : List (List (List ℕ))). IsAnswer One c.args.width rows rows c.read_rows.result) c.records_of-records.ensures.left c.read_rows.ensures

pub returns-clause-width : goal.returns-clause-width
returns-clause-width c = answer-width c.args.width (table_of c.args.bytes.now) c.read_rows.result (answer c)

pub returns-clause-good_found : goal.returns-clause-good_found
returns-clause-good_found c = answer-good One c.args.width (table_of c.args.bytes.now) (table_of c.args.bytes.now) c.read_rows.result (answer c)

pub returns-clause-too_many_found : goal.returns-clause-too_many_found
returns-clause-too_many_found c = answer-too_many One c.args.width (table_of c.args.bytes.now) (table_of c.args.bytes.now) c.read_rows.result (answer c)

pub returns-clause-bad_found : goal.returns-clause-bad_found
returns-clause-bad_found c = answer-bad One c.args.width (table_of c.args.bytes.now) (table_of c.args.bytes.now) c.read_rows.result (answer c)
