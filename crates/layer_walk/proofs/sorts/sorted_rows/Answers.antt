use Rattle.std.proofs.Common.{rules}
use Rattle.std.proofs.lemmas.List.Sorted.{answers_always}
use Rattle.tag_groups.specs.RowView.{RowView}
use Rattle.layer_walk.proofs.sorts.sorted_rows.Goals as goal

pub returns : goal.returns
returns c = record {
  moved = c.in_ok-sort_by_key.ensures.permutation;
  rises = c.in_ok-sort_by_key.ensures.sorted (λ (x : RowView). x.index) (answers_always _ _ _ (λ f a r q k. search rules));
  stable = c.in_ok-sort_by_key.ensures.stable (λ (x : RowView). x.index) (answers_always _ _ _ (λ f a r q k. search rules));
}
