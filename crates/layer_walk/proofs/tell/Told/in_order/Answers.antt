use Rattle.std.proofs.Common.{◌≡◌, ◌∙◌}
use Rattle.star_lists.specs.Ascending.{in_order}
use Rattle.star_lists.proofs.Stable.{stable_sort}
use Rattle.layer_walk.specs.Reveal.{by_path, by_index, by_aux_index}
use Rattle.layer_walk.proofs.Orders.{path_total, index_total, aux_index_total}
use Rattle.layer_walk.proofs.tell.Told.in_order.Goals as goal

pub returns : goal.returns
returns c =
    let groups : c.from_vec.result ≡ in_order by_path c.args.self.groups.items =
    c.from_vec.ensures ∙ stable_sort by_path path_total _ _ c.in_ok-sorted_groups.ensures.rises c.in_ok-sorted_groups.ensures.stable in
    let refusals : c.from_vec-2.result ≡ in_order by_index c.args.self.refusals.items =
    c.from_vec-2.ensures ∙ stable_sort by_index index_total _ _ c.in_ok-sorted_refusals.ensures.rises c.in_ok-sorted_refusals.ensures.stable in
    let aux : c.from_vec-3.result ≡ in_order by_aux_index c.args.self.aux.items =
    c.from_vec-3.ensures ∙ stable_sort by_aux_index aux_index_total _ _ c.in_ok-sorted_aux.ensures.rises c.in_ok-sorted_aux.ensures.stable in
    let levels : c.levels.inside.items.items ≡ c.args.self.levels = c.levels.view_is in
    λ i. record { records = c.args.records; rows = c.args.rows; groups = groups i; levels = levels i; refusals = refusals i; aux = aux i }
