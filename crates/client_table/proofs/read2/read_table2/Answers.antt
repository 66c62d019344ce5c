use Rattle.std.proofs.Common.{ℕ, List, map, subst}
use Rattle.report_frame.specs.declared.version.Version.TheVariants.{Two}
use Rattle.client_table.specs.Answer.{IsAnswer}
use Rattle.client_table.specs.Table.{table_of, table2_of, row2_of}
use Rattle.client_table.proofs.Outcomes.{answer-bad, answer-good, answer-too_many, answer-width2}
use Rattle.client_table.proofs.read2.read_table2.Goals as goal

-- what is returned for the records of the text
answer : (c : goal.Joined-records) → IsAnswer Two c.args.width (table_of c.args.bytes.now) (table2_of c.args.width c.args.bytes.now) c.read_rows2.result
answer c = subst (λ (rows : List (List (List ℕ))). IsAnswer Two c.args.width rows (map (row2_of c.args.width) rows) c.read_rows2.result) c.records_of-records.ensures.left c.read_rows2.ensures

pub returns-clause-width : goal.returns-clause-width
returns-clause-width c = answer-width2 c.args.width (table_of c.args.bytes.now) c.read_rows2.result (answer c)

pub returns-clause-good_found : goal.returns-clause-good_found
returns-clause-good_found c = answer-good Two c.args.width (table_of c.args.bytes.now) (table2_of c.args.width c.args.bytes.now) c.read_rows2.result (answer c)

pub returns-clause-too_many_found : goal.returns-clause-too_many_found
returns-clause-too_many_found c = answer-too_many Two c.args.width (table_of c.args.bytes.now) (table2_of c.args.width c.args.bytes.now) c.read_rows2.result (answer c)

pub returns-clause-bad_found : goal.returns-clause-bad_found
returns-clause-bad_found c = answer-bad Two c.args.width (table_of c.args.bytes.now) (table2_of c.args.width c.args.bytes.now) c.read_rows2.result (answer c)
