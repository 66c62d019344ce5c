-- Laws of the groups of rows.
use Rattle.std.proofs.Common.{◌≡◌, ℕ, zero, suc, ◌<◌, true, false, ◌||◌, List, [], ◌∷◌, length, refl, sym, ap, ◌∙◌, subst, map, arith, get_or}
use Rattle.std.proofs.lemmas.Bool.{false≢true, or_parts}
use Rattle.std.proofs.lemmas.List.{length-map}
use Rattle.std.proofs.lemmas.List.Elements.{All-map}
use Rattle.std.specs.List.{All, AllPairs, Contains, list_any}
use Rattle.tag_groups.specs.RowView.{RowView}
use Rattle.tag_groups.specs.GroupView.{GroupView}
use Rattle.tag_groups.specs.Keys.{same_key}
use Rattle.tag_groups.specs.Grouped.{in_group, group_of, groups_of}
use Rattle.tag_groups.specs.Laws.{AreMembers, AreInside, AreApart, HasRow}
use Rattle.tag_groups.proofs.Keys.{same_key_of, through}
use Rattle.star_lists.proofs.FirstOnes.{Apart, apart_firsts, any_first, in_firsts}
use Rattle.star_lists.proofs.Elements.{in_from_Contains, Contains-from_in, in_at, any_in}
use Rattle.star_lists.specs.FirstOnes.{first_ones}
use Rattle.star_lists.proofs.Places.{places_below, elements_at_places}

-- a fact of the group of each row holds of each group
each_group : (P : GroupView → Type 0) (rows : List RowView) → ((row : RowView) → P (group_of rows row)) → All P (groups_of rows)
unfolding groups_of
each_group P rows f = All-map P (group_of rows) (first_ones same_key rows) (λ k d h. f (get_or (first_ones same_key rows) k d))

-- members are the filter of the rows
pub are_members : (rows : List RowView) → All (AreMembers rows) (groups_of rows)
are_members rows = each_group (AreMembers rows) rows (λ row. elements_at_places [] rows (same_key row) 0 rows refl refl)

-- each member is the place of a row
pub are_inside : (rows : List RowView) → All (AreInside rows) (groups_of rows)
are_inside rows = each_group (AreInside rows) rows (λ row k d h. omega (arith, places_below 0 (same_key row) rows k d h))

-- each group has the key of a row
pub have_rows : (rows : List RowView) → All (HasRow rows) (groups_of rows)
unfolding groups_of
have_rows rows = All-map (HasRow rows) (group_of rows) (first_ones same_key rows) (λ k d h.
    let row = get_or (first_ones same_key rows) k d in
    (row, Contains-from_in rows row (in_firsts same_key rows row (in_at (first_ones same_key rows) k d h)), refl, refl))

-- what holds of the head of each row holds of the head of each group
pub heads_all : (P : RowView → Type 0) (Q : GroupView → Type 0) (rows : List RowView) → ((row : RowView) → P row → Q (group_of rows row)) → All P rows → All Q (groups_of rows)
unfolding groups_of
heads_all P Q rows f all = All-map Q (group_of rows) (first_ones same_key rows) (λ k d h.
    let row = get_or (first_ones same_key rows) k d in
    let there = Contains-from_in rows row (in_firsts same_key rows row (in_at (first_ones same_key rows) k d h)) in
    f row (subst P there.2 (all there.0 row there.1)))

apart_later : (f : RowView) (fs : List RowView) (k : ℕ) (d : RowView) → list_any (same_key f) fs ≡ false → k < length fs → same_key f (get_or fs k d) ≡ false
apart_later f [] k d h lt = absurd (omega (arith, lt))
apart_later f (r ∷ rs) zero d h lt = (or_parts (same_key f r) (list_any (same_key f) rs) h).0
apart_later f (r ∷ rs) (suc k) d h lt = apart_later f rs k d (or_parts (same_key f r) (list_any (same_key f) rs) h).1 (omega (arith, lt))

apart_places : (rows fs : List RowView) → Apart same_key fs → AllPairs AreApart (map (group_of rows) fs)
apart_places rows [] h i j d lt below = absurd (omega (arith, below))
apart_places rows (f ∷ fs) h i zero d lt below = absurd (omega (arith, lt))
apart_places rows (f ∷ fs) h zero (suc j) d lt below =
    let inside : j < length fs = omega (arith, below, length-map fs (group_of rows)) in
    let row : RowView = get_or fs j f in
    let is : get_or (map (group_of rows) fs) j d ≡ group_of rows row = at_map fs j f d inside in
    subst (λ g. AreApart (group_of rows f) g) (sym is) (λ e. false≢true (sym (apart_later f fs j f h.0 inside) ∙ same_key_of f row e.0 e.1))
  where
    at_map : (xs : List RowView) (j : ℕ) (e : RowView) (d : GroupView) → j < length xs → get_or (map (group_of rows) xs) j d ≡ group_of rows (get_or xs j e)
    at_map [] j e d h = absurd (omega (arith, h))
    at_map (x ∷ xs) zero e d h = refl
    at_map (x ∷ xs) (suc j) e d h = at_map xs j e d (omega (arith, h))
apart_places rows (f ∷ fs) h (suc i) (suc j) d lt below = apart_places rows fs h.1 i j d (omega (arith, lt)) (omega (arith, below))

-- no two groups have one parent and one head
pub are_apart : (rows : List RowView) → AllPairs AreApart (groups_of rows)
unfolding groups_of
are_apart rows = apart_places rows (first_ones same_key rows) (apart_firsts same_key rows)

any_map : (row : RowView) (rows xs : List RowView) → list_any (in_group row) (map (group_of rows) xs) ≡ list_any (λ z. same_key z row) xs
any_map row rows [] = refl
any_map row rows (x ∷ xs) = ap (λ b. same_key x row || b) (any_map row rows xs)

-- each row has its group
pub has_group : (rows : List RowView) (row : RowView) → Contains rows row → list_any (in_group row) (groups_of rows) ≡ true
unfolding groups_of
has_group rows row there =
    any_map row rows (first_ones same_key rows) ∙ any_first same_key through row rows
    ∙ any_in (λ z. same_key z row) rows row (in_from_Contains rows row there) (same_key_of row row refl refl)
