use Rattle.std.proofs.Common.{◌≡◌, ◌∙◌, ◌++◌, ◌∷◌, ℕ, List, [], true, Err, ap, sym, arith, append_assoc, length-append, rules}
use Rattle.csv.specs.Records.{fields_of}
use Rattle.report_frame.specs.declared.version.Version.TheVariants.{One}
use Rattle.client_table.specs.declared.row.RowError.{RowError}
use Rattle.client_table.specs.Left.{left}
use Rattle.client_table.proofs.Outcomes.{refused, rows-more}
use Rattle.client_table.proofs.read.read_rows.Goals as goal

pub rows-preserved : goal.rows-preserved
rows-preserved c =
    let cells : List (List ℕ) = fields_of c.next_record.new.into in
    let table : List (List (List ℕ)) = c.rows.table in
    let found : c.in_ok-next_record.field-0 ≡ true = search rules in
    let next = rw found at c.in_ok-next_record.ensures.next in
    let added : c.push_row.new.self ≡ table ++ cells ∷ [] =
    c.in_ok-push_row-in-Ok.ensures.added ∙ ap (λ (row : List (List ℕ)). table ++ row ∷ []) c.in-Ok.ensures.cells in
    rw added (record {
      all = rw append_assoc (ap (λ (rest : List (List (List ℕ))). table ++ rest) (sym next) ∙ c.rows.invariant.all);
      count = rw length-append (omega (arith, c.rows.invariant.count));
      good = rows-more One c.args.width c.rows.row table cells c.rows.invariant.count c.rows.invariant.good c.in-Ok.ensures.good;
      between = c.in_ok-next_record.ensures.between found;
    })

pub returns-in-Err-BadAt : goal.returns-in-Err-BadAt
returns-in-Err-BadAt c =
    let cells : List (List ℕ) = fields_of c.next_record.new.into in
    let table : List (List (List ℕ)) = c.rows.table in
    let found : c.in_ok-next_record.field-0 ≡ true = search rules in
    let next = rw found at c.in_ok-next_record.ensures.next in
    let all : table ++ cells ∷ left c.next_record.new.records ≡ left c.args.records.now =
    ap (λ (rest : List (List (List ℕ))). table ++ rest) (sym next) ∙ c.rows.invariant.all in
    refused One c.args.width c.in-Err-BadAt.column (left c.args.records.now) table (left c.next_record.new.records) cells (left c.args.records.now) c.refusal.result
    all (λ k lt. c.rows.invariant.good k (omega (arith, c.rows.invariant.count))) (c.in-Err-BadAt.ensures.bad c.in-Err-BadAt.column (ap (λ (e : RowError). Err e) c.in-Err-BadAt.field-0-is))
    (rw (sym c.rows.invariant.count, c.in-Err-BadAt.column-is) at c.refusal.ensures)
