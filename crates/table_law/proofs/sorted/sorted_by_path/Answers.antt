use Rattle.std.proofs.Common.{rules}
use Rattle.std.specs.Ordering.{is_lt}
use Rattle.std.proofs.lemmas.List.Sorted.{answers_always}
use Rattle.star_lists.proofs.Stable.{stable_sort, weak_order}
use Rattle.layer_walk.specs.Reveal.{by_path}
use Rattle.layer_walk.proofs.Orders.{path_total}
use Rattle.table_law.proofs.sorted.sorted_by_path.Goals as goal

pub returns : goal.returns
returns c =
    stable_sort by_path path_total c.args.groups.items c.sort_by.new.self.items
    (c.in_ok-sort_by.ensures.sorted (λ a b. is_lt (by_path a b)) (weak_order by_path path_total) (answers_always _ _ _ (λ f a r q k. search rules)))
    (c.in_ok-sort_by.ensures.stable (λ a b. is_lt (by_path a b)) (weak_order by_path path_total) (answers_always _ _ _ (λ f a r q k. search rules)))
