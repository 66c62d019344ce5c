use Rattle.std.proofs.Common.{◌≡◌, ◌∙◌, None, option_map, ap, sym, rules}
use Rattle.csv.specs.Records.{field_at, fields_of}
use Rattle.report_frame.specs.declared.version.Version.TheVariants.{One}
use Rattle.client_table.proofs.Cells.{none-of, row-ends, take-gone}
use Rattle.client_table.proofs.row.row_of.Goals as goal

pub returns-in_err-values-clause-bad : goal.returns-in_err-values-clause-bad
returns-in_err-values-clause-bad c column is = c.in_err-values.ensures.bad column (search rules) One

-- there is no cell after the last value
gone : (c : goal.Else-is_some) → field_at (fields_of c.args.cells.now) c.args.width ≡ None
gone c = sym c.get.ensures.value ∙ ap (option_map (λ cell. cell.now)) (none-of c.get.result (sym c.is_some.ensures ∙ c.if-is_some.false))

pub returns-clause-cells : goal.returns-clause-cells
returns-clause-cells c = c.in_ok-values.ensures.cells ∙ take-gone (fields_of c.args.cells.now) c.args.width (gone c)

pub returns-clause-good : goal.returns-clause-good
returns-clause-good c = row-ends One c.args.width (fields_of c.args.cells.now) (c.in_ok-values.ensures.good One) (gone c)
