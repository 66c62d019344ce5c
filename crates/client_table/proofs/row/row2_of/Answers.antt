use Rattle.std.proofs.Common.{◌≡◌, ◌∙◌, ◌<◌, ◌+◌, ℕ, List, None, false, option_map, take, ap, sym, rules, below_more}
use Rattle.csv.specs.Records.{field_at, fields_of}
use Rattle.report_frame.specs.declared.version.Version.TheVariants.{Two}
use Rattle.client_table.specs.Table.{is_bad_at}
use Rattle.client_table.proofs.Cells.{none-of, row-ends, there-at}
use Rattle.client_table.proofs.row.row2_of.Goals as goal

pub returns-in_err-values-clause-bad : goal.returns-in_err-values-clause-bad
returns-in_err-values-clause-bad c column is = c.in_err-values.ensures.bad column (search rules) Two

-- there is no cell after the extra bytes
gone : (c : goal.Else-is_some) → field_at (fields_of c.args.cells.now) (c.args.width + 1) ≡ None
gone c = sym c.get.ensures.value ∙ ap (option_map (λ cell. cell.now)) (none-of c.get.result (sym c.is_some.ensures ∙ c.if-is_some.false))

pub returns-clause-cells : goal.returns-clause-cells
returns-clause-cells c =
    ap (λ (values : List (List ℕ)). (values, c.in-Some.extra)) c.in_ok-values.ensures.cells
    ∙ ap (λ (extra : List ℕ). (take c.args.width (fields_of c.args.cells.now), extra)) (sym (there-at (fields_of c.args.cells.now) c.args.width c.in-Some.extra c.in-Some.ensures.extra))

-- the record is good up to the extra bytes
good : (c : goal.Else-is_some) → (k : ℕ) → k < c.args.width + 1 → is_bad_at Two c.args.width (fields_of c.args.cells.now) k ≡ false
good c = below_more (λ k. is_bad_at Two c.args.width (fields_of c.args.cells.now) k ≡ false) c.args.width (c.in_ok-values.ensures.good Two) (c.in-Some.ensures.good (search rules))

pub returns-clause-good : goal.returns-clause-good
returns-clause-good c = row-ends Two c.args.width (fields_of c.args.cells.now) (good c) (gone c)
