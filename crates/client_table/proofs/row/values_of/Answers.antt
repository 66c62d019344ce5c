use Rattle.std.proofs.Common.{◌≡◌, ◌∙◌, ◌+◌, ℕ, List, [], ◌∷◌, ◌++◌, false, take, ap, sym, add-one, below_more, rules}
use Rattle.csv.specs.Records.{fields_of}
use Rattle.client_table.specs.Table.{is_bad_at}
use Rattle.client_table.proofs.Cells.{take-cell}
use Rattle.client_table.proofs.row.values_of.Goals as goal

pub columns-preserved : goal.columns-preserved
columns-preserved c =
    let cells : List (List ℕ) = fields_of c.args.cells.now in
    let n : ℕ = c.columns.column in
    let more : take (n + 1) cells ≡ take n cells ++ c.in-Some.value ∷ [] = rw add-one (take-cell cells n c.in-Some.value c.in-Some.ensures.value) in
    record {
      cells = c.in_ok-push.ensures.items ∙ ap (λ (row : List (List ℕ)). row ++ c.in-Some.value ∷ []) c.columns.invariant.cells ∙ sym more;
      good = λ version. below_more (λ k. is_bad_at version c.args.width cells k ≡ false) n (c.columns.invariant.good version) (c.in-Some.ensures.good (search rules) version c.args.width c.columns-test.true);
    }
