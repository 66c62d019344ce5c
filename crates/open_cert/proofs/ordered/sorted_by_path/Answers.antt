use Rattle.std.proofs.Common.{rules}
use Rattle.std.specs.Ordering.{is_lt}
use Rattle.std.proofs.lemmas.List.Sorted.{answers_always}
use Rattle.star_lists.proofs.Stable.{weak_order}
use Rattle.open_cert.specs.Certs.{by_told_path}
use Rattle.open_cert.proofs.ByPath.{told_total}
use Rattle.open_cert.proofs.ordered.sorted_by_path.Goals as goal

pub returns : goal.returns
returns c = record {
  moved = c.in_ok-sort_by.ensures.permutation;
  rises = c.in_ok-sort_by.ensures.sorted (λ a b. is_lt (by_told_path a b)) (weak_order by_told_path told_total) (answers_always _ _ _ (λ f a r q k. search rules));
  stable = c.in_ok-sort_by.ensures.stable (λ a b. is_lt (by_told_path a b)) (weak_order by_told_path told_total) (answers_always _ _ _ (λ f a r q k. search rules));
}
