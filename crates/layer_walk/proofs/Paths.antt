-- The parents of the next level: their paths differ, and are one step longer.
use Rattle.std.proofs.Common.{◌≡◌, ◌≢◌, zero, suc, ◌+◌, ◌<◌, List, [], ◌∷◌, inl, inr, length, get_or, subst, sym, ap, ◌∙◌, arith, All, AllPairs}
use Rattle.std.proofs.lemmas.List.Elements.{All-head, All-tail}
use Rattle.star_lists.proofs.Elements.{In, Pairwise, of_all, in_at}
use Rattle.star_lists.proofs.Inside.{from_map}
use Rattle.tag_groups.specs.RowView.{RowView}
use Rattle.layer_walk.specs.declared.level.Level.{Level}
use Rattle.layer_walk.specs.declared.level.Parent.{Parent}
use Rattle.layer_walk.specs.Rows.{Row}
use Rattle.layer_walk.specs.Levels.{parents_at}
use Rattle.layer_walk.specs.Outs.{parent_at}
use Rattle.layer_walk.specs.Reveal.{no_parent}
use Rattle.layer_walk.specs.Made.{of_level, IsLevel, named, named_row}
use Rattle.layer_walk.proofs.Numbers.{one_place}
use Rattle.layer_walk.proofs.WholePaths.{PathsFix, Depth, parents_apart, parents_deep}

-- what holds of each two elements holds of each two places
all_pairs : {X : Type 0} (R : X → X → Type 0) (xs : List X) → Pairwise R xs → AllPairs R xs
all_pairs R [] h i j d lt inside = absurd (omega arith)
all_pairs R (x ∷ xs) h zero zero d lt inside = absurd (omega arith)
all_pairs R (x ∷ xs) h zero (suc j) d lt inside = of_all (R x) xs h.0 (get_or xs j d) (in_at xs j d (omega arith))
all_pairs R (x ∷ xs) h (suc i) zero d lt inside = absurd (omega arith)
all_pairs R (x ∷ xs) h (suc i) (suc j) d lt inside = all_pairs R xs h.1 i j d (omega arith) (omega arith)

-- what holds at each place holds of each element
each_of : {X : Type 0} (P : X → Type 0) (xs : List X) → All P xs → (x : X) → In x xs → P x
each_of P [] h x i = absurd i
each_of P (y ∷ ys) h x (inl e) = subst P (sym e) (All-head P y ys h)
each_of P (y ∷ ys) h x (inr i) = each_of P ys (All-tail P y ys h) x i

module _ (level : Level) (good : IsLevel level) where
  fix : PathsFix (named level)
  unfolding PathsFix
  fix a b ia ib same =
      let HasParent : RowView → Type 0 = λ r. r.parent < length level.parents in
      let of_a = from_map (named_row level.parents) a level.rows ia in
      let of_b = from_map (named_row level.parents) b level.rows ib in
      let one : of_a.0.parent ≡ of_b.0.parent =
      one_place level.parents good.distinct of_a.0.parent of_b.0.parent (each_of HasParent level.rows good.parents of_a.0 of_a.1)
      (each_of HasParent level.rows good.parents of_b.0 of_b.1)
      (ap (λ (r : Row). r.parent.path) of_a.2 ∙ same ∙ ap (λ (r : Row). r.parent.path) (sym of_b.2)) in
      ap (λ (r : Row). r.parent.check) (sym of_a.2) ∙ ap (λ i. (parent_at level.parents i).check) one
      ∙ ap (λ (r : Row). r.parent.check) of_b.2

  deep : Depth level.number (named level)
  unfolding Depth
  deep r i =
      let from = from_map (named_row level.parents) r level.rows i in
      ap (λ (r : Row). length r.parent.path) (sym from.2)
      ∙ good.depth from.0.parent no_parent (each_of (λ (r : RowView). r.parent < length level.parents) level.rows good.parents from.0
      from.1)

  pub paths_differ : AllPairs (λ (p q : Parent). p.path ≢ q.path) (of_level level parents_at)
  paths_differ = all_pairs _ _ (parents_apart level.epoch level.number (named level) fix)

  pub depth_more : All (λ (p : Parent). length p.path ≡ level.number + 1) (of_level level parents_at)
  depth_more k d lt = parents_deep level.epoch level.number (named level) _ deep (in_at (of_level level parents_at) k d lt)
