-- The rows of the code have the number of a parent, and the rows that they stand for that parent: both make the same groups.
use Rattle.std.proofs.Common.{◌≡◌, ◌≢◌, ℕ, ◌<◌, true, false, cond, List, [], ◌∷◌, inl, inr, length, refl, sym, ap, ◌∙◌, map, filter, arith, All, AllPairs, eqb, eqb-true, eq-eqb}
use Rattle.std.specs.Cmp.{both_ways, first_so, second_so}
use Rattle.std.proofs.lemmas.Bool.{cases_lt, and_from}
use Rattle.std.proofs.lemmas.List.Elements.{All-head, All-tail}
use Rattle.report_frame.specs.View.{head_of}
use Rattle.tag_groups.specs.RowView.{RowView}
use Rattle.tag_groups.specs.Keys.{same_key, same_head}
use Rattle.layer_walk.specs.declared.level.Parent.{Parent}
use Rattle.layer_walk.specs.Rows.{same_parent, same_group}
use Rattle.layer_walk.specs.Outs.{parent_at}
use Rattle.layer_walk.specs.Reveal.{no_parent}
use Rattle.layer_walk.specs.Made.{named_row}
use Rattle.layer_walk.proofs.Same.{parent_decides}

module _ (parents : List Parent) (distinct : AllPairs (λ (p q : Parent). p.path ≢ q.path) parents) where
  -- parents of one path stand at one place
  pub one_place : (i j : ℕ) → i < length parents → j < length parents → (parent_at parents i).path ≡ (parent_at parents j).path → i ≡ j
  one_place i j p q same = elim (cases_lt i j) [
    | inl lt ↦ absurd (distinct i j no_parent lt q same)
    | inr ge ↦ elim (cases_lt j i) [
      | inl gt ↦ absurd (distinct j i no_parent gt p (sym same))
      | inr le ↦ omega arith
    ]
  ]

  -- two rows stand in one group by the numbers of their parents where they do by their parents
  pub same_named : (a b : RowView) → a.parent < length parents → b.parent < length parents → same_group (named_row parents a) (named_row parents b) ≡ same_key a b
  same_named a b p q =
      let A = parent_at parents a.parent in
      let B = parent_at parents b.parent in
      let heads = same_head (head_of a.report) (head_of b.report) in
      both_ways (same_group (named_row parents a) (named_row parents b)) (same_key a b)
      (λ h.
      let same : A ≡ B = (parent_decides A B).0 (first_so (same_parent A B) _ h) in
      and_from _ _ (eq-eqb a.parent b.parent (one_place a.parent b.parent p q (ap (λ (r : Parent). r.path) same))) (second_so (same_parent A B) _ h))
      (λ h.
      let e : a.parent ≡ b.parent = eqb-true a.parent b.parent (first_so (eqb a.parent b.parent) _ h) in
      and_from _ _ ((parent_decides A B).1 (ap (parent_at parents) e)) (second_so (eqb a.parent b.parent) _ h))

  -- so the groups have the same members, named
  pub members_named : (row : RowView) (rows : List RowView) → row.parent < length parents → All (λ (r : RowView). r.parent < length parents) rows → filter (same_group (named_row parents row)) (map (named_row parents) rows) ≡ map (named_row parents) (filter (same_key row) rows)
  members_named row [] p h = refl
  members_named row (r ∷ rs) p h =
      let rest = members_named row rs p (All-tail (λ (r : RowView). r.parent < length parents) r rs h) in
      ap (λ b. cond b (named_row parents r ∷ filter (same_group (named_row parents row)) (map (named_row parents) rs)) (filter (same_group (named_row parents row)) (map (named_row parents) rs))) (same_named row r p (All-head (λ (r : RowView). r.parent < length parents) r rs h))
      ∙ elim (same_key row r) as (λ b. cond b (named_row parents r ∷ filter (same_group (named_row parents row)) (map (named_row parents) rs)) (filter (same_group (named_row parents row)) (map (named_row parents) rs)) ≡ map (named_row parents) (cond b (r ∷ filter (same_key row) rs) (filter (same_key row) rs))) [
        | true ↦ ap (λ l. named_row parents r ∷ l) rest
        | false ↦ rest
      ]
