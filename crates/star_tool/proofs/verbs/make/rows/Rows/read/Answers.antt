use Rattle.std.proofs.Common.{ap, sym, subst, Err}
use Rattle.report_frame.specs.declared.version.Version.{Version}
use Rattle.client_table.specs.Table.{table_of, IsBadTable}
use Rattle.star_tool.proofs.Reasons.{same_error}
use Rattle.star_tool.proofs.verbs.make.rows.Rows.read.Goals as goal

pub returns-in_err-read_table-in-One-clause-bad : goal.returns-in_err-read_table-in-One-clause-bad
returns-in_err-read_table-in-One-clause-bad c = λ row column is.
    subst (λ (v : Version). IsBadTable v c.args.width (table_of c.args.bytes.now) row column) (sym c.in-One.is)
    (c.in_err-read_table-in-One.ensures.bad row column (ap (λ e. Err e) (same_error c.from_residual.result _ _ c.from_residual.ensures.1 is)))

pub returns-in_err-read_table2-in-Two-clause-bad :
    goal.returns-in_err-read_table2-in-Two-clause-bad
returns-in_err-read_table2-in-Two-clause-bad c = λ row column is.
    subst (λ (v : Version). IsBadTable v c.args.width (table_of c.args.bytes.now) row column) (sym c.in-Two.is)
    (c.in_err-read_table2-in-Two.ensures.bad row column (ap (λ e. Err e) (same_error c.from_residual-in_err-read_table2-in-Two.result _ _ c.from_residual-in_err-read_table2-in-Two.ensures.1 is)))
