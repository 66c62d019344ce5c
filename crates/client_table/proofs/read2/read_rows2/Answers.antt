use Rattle.std.proofs.Common.{◌≡◌, ◌∙◌, ◌++◌, ◌∷◌, ℕ, List, [], length, map, true, Err, ap, sym, arith, append_assoc, length-append, rules}
use Rattle.std.proofs.lemmas.List.{length-map, map-append}
use Rattle.csv.specs.Records.{fields_of}
use Rattle.report_frame.specs.declared.version.Version.TheVariants.{Two}
use Rattle.client_table.specs.declared.row.RowError.{RowError}
use Rattle.client_table.specs.Left.{left}
use Rattle.client_table.specs.Table.{row2_of}
use Rattle.client_table.proofs.Outcomes.{refused, rows-more}
use Rattle.client_table.proofs.read2.read_rows2.Goals as goal

pub rows-preserved : goal.rows-preserved
rows-preserved c =
    let cells : List (List ℕ) = fields_of c.next_record.new.into in
    let row : List (List ℕ) × List ℕ = row2_of c.args.width cells in
    let taken : List (List (List ℕ)) = c.rows.invariant.all.0 in
    let found : c.in_ok-next_record.field-0 ≡ true = search rules in
    let next = rw found at c.in_ok-next_record.ensures.next in
    let long : length taken ≡ c.rows.row = omega (arith, c.rows.invariant.count, ap length c.rows.invariant.all.1, length-map {A = List (List ℕ)} {B = List (List ℕ) × List ℕ}) in
    let added : c.push_row.new.self ≡ c.rows.table ++ row ∷ [] =
    c.in_ok-push_row-in-Ok.ensures.added ∙ ap (λ (r : List (List ℕ) × List ℕ). c.rows.table ++ r ∷ []) c.in-Ok.ensures.cells in
    record {
      all = (
        taken ++ cells ∷ [],
        added ∙ ap (λ (t : List (List (List ℕ) × List ℕ)). t ++ row ∷ []) c.rows.invariant.all.1 ∙ sym (map-append (row2_of c.args.width) taken (cells ∷ [])),
        append_assoc taken (cells ∷ []) (left c.next_record.new.records) ∙ ap (λ (rest : List (List (List ℕ))). taken ++ rest) (sym next) ∙ c.rows.invariant.all.2,
        rows-more Two c.args.width c.rows.row taken cells long c.rows.invariant.all.3 c.in-Ok.ensures.good,
      );
      count = ap length added ∙ omega (arith, length-append c.rows.table (row ∷ []), c.rows.invariant.count);
      between = c.in_ok-next_record.ensures.between found;
    }

pub returns-in-Err-BadAt : goal.returns-in-Err-BadAt
returns-in-Err-BadAt c =
    let cells : List (List ℕ) = fields_of c.next_record.new.into in
    let taken : List (List (List ℕ)) = c.rows.invariant.all.0 in
    let found : c.in_ok-next_record.field-0 ≡ true = search rules in
    let next = rw found at c.in_ok-next_record.ensures.next in
    let long : c.rows.row ≡ length taken = omega (arith, c.rows.invariant.count, ap length c.rows.invariant.all.1, length-map {A = List (List ℕ)} {B = List (List ℕ) × List ℕ}) in
    let all : taken ++ cells ∷ left c.next_record.new.records ≡ left c.args.records.now =
    ap (λ (rest : List (List (List ℕ))). taken ++ rest) (sym next) ∙ c.rows.invariant.all.2 in
    refused Two c.args.width c.in-Err-BadAt.column (left c.args.records.now) taken (left c.next_record.new.records) cells (map (row2_of c.args.width) (left c.args.records.now)) c.refusal.result
    all (λ k lt. c.rows.invariant.all.3 k (omega (arith, long))) (c.in-Err-BadAt.ensures.bad c.in-Err-BadAt.column (ap (λ (e : RowError). Err e) c.in-Err-BadAt.field-0-is))
    (rw (long, c.in-Err-BadAt.column-is) at c.refusal.ensures)
