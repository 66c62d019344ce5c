-- Groups don't look at the nonce, body and seal of a frame.
use Rattle.std.proofs.Common.{◌≡◌, ℕ, List, ◌∷◌, ◌++◌, Some, refl, sym, ap, ◌∙◌, map}
use Rattle.std.proofs.lemmas.List.{map-append}
use Rattle.std.proofs.lemmas.Simd.{map-map}
use Rattle.report_frame.specs.View.{head_of}
use Rattle.star_lists.proofs.Mapped.{filter-map, first_ones-map}
use Rattle.tag_groups.specs.Left.{point_of, points_left_of}
use Rattle.layer_walk.specs.Rows.{Row, same_group, members, first_members, points_left}
use Rattle.layer_walk.specs.Outcomes.{outcome_of, outcome_at}
use Rattle.layer_walk.specs.Members.{next_at}
use Rattle.layer_walk.specs.Levels.{where_opened}
use Rattle.layer_walk.specs.Laws.{outside_of, key_of, group_keys, member_numbers, SameGroups}

members-outside : (rows : List Row) (row : Row) → members (map outside_of rows) row ≡ map outside_of (members rows row)
members-outside rows row = filter-map (same_group row) (same_group row) outside_of (λ x. refl) rows

keys-outside : (rows : List Row) → group_keys (map outside_of rows) ≡ group_keys rows
keys-outside rows =
    ap (map key_of) (first_ones-map same_group same_group outside_of (λ a b. refl) rows)
    ∙ map-map key_of outside_of (first_members rows)

numbers-outside : (rows : List Row) (row : Row) → member_numbers (map outside_of rows) row ≡ member_numbers rows row
numbers-outside rows row =
    ap (map (λ (r : Row). r.index)) (members-outside rows row) ∙ map-map (λ (r : Row). r.index) outside_of (members rows row)

points-outside : (rows : List Row) (row : Row) → points_left (map outside_of rows) row ≡ points_left rows row
points-outside rows row =
    ap (λ group. points_left_of (map (λ (r : Row). point_of r.frame) group)) (members-outside rows row)
    ∙ ap points_left_of (map-map (λ (r : Row). point_of r.frame) outside_of (members rows row))

-- lists of rows that are equal but for nonces, bodies and seals
same_outside : (e l : ℕ) (one other : List Row) → map outside_of one ≡ map outside_of other → SameGroups e l one other
unfolding outcome_at
same_outside e l one other same =
    let points : (row : Row) → points_left one row ≡ points_left other row = λ row. sym (points-outside one row) ∙ ap (λ rows. points_left rows row) same ∙ points-outside other row in
    let outcomes : (row : Row) → outcome_at e l one row ≡ outcome_at e l other row = λ row. ap (outcome_of e l row.parent.check (head_of row.frame)) (points row) in
    record {
      groups = sym (keys-outside one) ∙ ap group_keys same ∙ keys-outside other;
      members = λ row. sym (numbers-outside one row) ∙ ap (λ rows. member_numbers rows row) same ∙ numbers-outside other row;
      points = points;
      outcomes = outcomes;
      held = λ row. ap (where_opened (λ value agree. Some (next_at e l row value))) (outcomes row);
    }

-- the nonce, body and seal of one row
pub one_changed : (e l : ℕ) (xs : List Row) (r s : Row) (ys : List Row) → outside_of r ≡ outside_of s → SameGroups e l (xs ++ r ∷ ys) (xs ++ s ∷ ys)
one_changed e l xs r s ys same =
    same_outside e l (xs ++ r ∷ ys) (xs ++ s ∷ ys)
    (map-append outside_of xs (r ∷ ys) ∙ ap (λ t. map outside_of xs ++ t ∷ map outside_of ys) same ∙ sym (map-append outside_of xs (s ∷ ys)))
