use Rattle.std.proofs.Common.{◌≡◌, ◌∙◌, sym, ap, refl, []}
use Rattle.std.specs.Map.{lookup}
use Rattle.std.specs.BTreeMap.{is_at}
use Rattle.tag_groups.specs.Grouped.{groups_of}
use Rattle.tag_groups.specs.Index.{rank_cmp, rank_of, has_key}
use Rattle.tag_groups.proofs.grouper.Grouper.new.Goals as goal
use Rattle.star_lists.specs.Places.{place_of}

no_groups : [] ≡ groups_of []
unfolding groups_of
no_groups = refl

pub invariant_of-result : goal.invariant_of-result
invariant_of-result c = record {
  groups_are = c.new-2.ensures.items ∙ no_groups ∙ ap groups_of (sym c.new.ensures.items);
  finds = λ key. ap (lookup (is_at (rank_cmp (rank_of key)))) c.new-3.ensures.empty ∙ ap (place_of (has_key key)) (sym c.new-2.ensures.items);
}
