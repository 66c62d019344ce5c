-- One more row, and the groups.
use Rattle.std.proofs.Common.{◌≡◌, ℕ, ◌+◌, ◌≤◌, Bool, true, false, ◌||◌, List, [], ◌∷◌, ◌++◌, length, refl, sym, ap, ◌∙◌, subst, map, append-nil}
use Rattle.std.proofs.lemmas.List.{length-map, map-append}
use Rattle.std.proofs.lemmas.Bool.{false≢true, or_parts}
use Rattle.std.specs.List.{list_any}
use Rattle.std.specs.Prelude.{if◌then◌else◌}
use Rattle.report_frame.specs.View.{head_of}
use Rattle.tag_groups.specs.RowView.{RowView}
use Rattle.tag_groups.specs.Keys.{same_key, key_of}
use Rattle.tag_groups.specs.Grouped.{group_of, groups_of}
use Rattle.tag_groups.specs.Index.{with_member, joined}
use Rattle.tag_groups.proofs.Keys.{same_key_is, same_key_of, through}
use Rattle.star_lists.proofs.Places.{places_more}
use Rattle.star_lists.proofs.FirstOnes.{first_ones_push, Apart, apart_firsts, any_first, few_firsts}
use Rattle.star_lists.specs.Places.{places_from, places}
use Rattle.star_lists.specs.FirstOnes.{first_ones}

-- no row has x's key, so x's group has no place yet
no_places : (x : RowView) (i : ℕ) (rows : List RowView) → list_any (λ z. same_key z x) rows ≡ false → places_from i (same_key x) rows ≡ []
no_places x i [] h = refl
no_places x i (y ∷ ys) h =
    elim (same_key x y) as (λ b. same_key x y ≡ b → (if b then i ∷ places_from (i + 1) (same_key x) ys else places_from (i + 1) (same_key x) ys) ≡ []) [
      | true ↦ λ e.
          let is = same_key_is x y e in
          absurd (false≢true (sym (or_parts (same_key y x) (list_any (λ z. same_key z x) ys) h).0 ∙ same_key_of y x (sym is.0) (sym is.1)))
      | false ↦ λ e. no_places x (i + 1) ys (or_parts (same_key y x) (list_any (λ z. same_key z x) ys) h).1
    ] refl

module _ (rows more : List RowView) (x : RowView) (grown : more ≡ rows ++ x ∷ []) where
  gets : (r : RowView) (b : Bool) → same_key r x ≡ b → places (same_key r) more ≡ places (same_key r) rows ++ (if b then length rows ∷ [] else [])
  gets r b is = places_more (same_key r) rows more x b is grown

  -- the groups of the rows that are not like x stay
  stays : (r : RowView) → same_key r x ≡ false → group_of more r ≡ group_of rows r
  stays r e = λ i. record { parent = r.parent; head = head_of r.report; members = (gets r false e ∙ append-nil (places (same_key r) rows)) i }

  all_stay : (f : RowView) (fs : List RowView) → same_key f x ≡ true → list_any (same_key f) fs ≡ false → map (group_of more) fs ≡ map (group_of rows) fs
  all_stay f [] e h = refl
  all_stay f (r ∷ rs) e h =
      let apart : same_key r x ≡ false = elim (same_key r x) as (λ b. same_key r x ≡ b → b ≡ false) [
        | true ↦ λ likes.
            let a = same_key_is f x e in
            let b = same_key_is r x likes in
            absurd (false≢true (sym (or_parts (same_key f r) (list_any (same_key f) rs) h).0 ∙ same_key_of f r (a.0 ∙ sym b.0) (a.1 ∙ sym b.1)))
        | false ↦ λ _. refl
      ] refl in
      λ i. stays r apart i ∷ all_stay f rs e (or_parts (same_key f r) (list_any (same_key f) rs) h).1 i

  firsts_grown : (fs : List RowView) → (list_any (λ z. same_key z x) fs ≡ false → places (same_key x) rows ≡ []) → Apart same_key fs →
      map (group_of more) fs ++ (if list_any (λ z. same_key z x) fs then [] else group_of more x ∷ []) ≡ joined (key_of x) (length rows) (map (group_of rows) fs)
  firsts_grown [] new apart =
      λ i. record { parent = x.parent; head = head_of x.report; members = (gets x true (same_key_of x x refl refl) ∙ ap (λ l. l ++ length rows ∷ []) (new refl)) i } ∷ []
  firsts_grown (f ∷ fs) new apart =
      elim (same_key f x) as (λ b. same_key f x ≡ b → group_of more f ∷ (map (group_of more) fs ++ (if b || list_any (λ z. same_key z x) fs then [] else group_of more x ∷ [])) ≡ (if b then with_member (length rows) (group_of rows f) ∷ map (group_of rows) fs else group_of rows f ∷ joined (key_of x) (length rows) (map (group_of rows) fs))) [
        | true ↦ λ e. λ i. record { parent = f.parent; head = head_of f.report; members = gets f true e i } ∷ (append-nil (map (group_of more) fs) ∙ all_stay f fs e apart.0) i
        | false ↦ λ e. λ i. stays f e i ∷ firsts_grown fs (λ h. new ((λ i. e i || list_any (λ z. same_key z x) fs) ∙ h)) apart.1 i
      ] refl

-- a row more is a member more in the group of its key
pub groups_grown : (rows more : List RowView) (x : RowView) → more ≡ rows ++ x ∷ [] → groups_of more ≡ joined (key_of x) (length rows) (groups_of rows)
unfolding groups_of
groups_grown rows more x grown =
    let firsts = first_ones same_key rows in
    let any : Bool = list_any (λ z. same_key z x) firsts in
    let last : (b : Bool) → map (group_of more) (if b then [] else x ∷ []) ≡ (if b then [] else group_of more x ∷ []) = λ b. elim b as (λ b. map (group_of more) (if b then [] else x ∷ []) ≡ (if b then [] else group_of more x ∷ [])) [ true ↦ refl | false ↦ refl ] in
    ap (λ l. map (group_of more) (first_ones same_key l)) grown
    ∙ ap (map (group_of more)) (first_ones_push same_key through rows x)
    ∙ map-append (group_of more) firsts (if any then [] else x ∷ [])
    ∙ ap (λ l. map (group_of more) firsts ++ l) (last any)
    ∙ firsts_grown rows more x grown firsts (λ h. no_places x 0 rows (sym (any_first same_key through x rows) ∙ h)) (apart_firsts same_key rows)

-- there are at most as many groups as rows
pub few_groups : (rows : List RowView) → length (groups_of rows) ≤ length rows
unfolding groups_of
few_groups rows = subst (λ n. n ≤ length rows) (sym (length-map (first_ones same_key rows) (group_of rows))) (few_firsts same_key rows)
