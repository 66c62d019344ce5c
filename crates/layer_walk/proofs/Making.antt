-- What each group of a level gives is what its members give, row by row.
use Rattle.std.proofs.Common.{◌≡◌, ◌≤◌, ◌≢◌, ℕ, ◌+◌, ◌<◌, true, false, cond, not, List, [], ◌∷◌, ◌++◌, Option, Some, length, refl, sym, ap, ◌∙◌, subst, map, filter, arith, All, AllPairs, length-append, get_or}
use Rattle.std.specs.Prelude.{slice_get}
use Rattle.std.specs.List.{filter_map, cons_option, AllZip}
use Rattle.std.specs.List.Sorted.{IsPermutation, IsSorted}
use Rattle.std.specs.Option.{option_map}
use Rattle.std.specs.Ordering.{nat_cmp, is_lt}
use Rattle.std.proofs.lemmas.List.{get_or-map, get_or_append_left, length-map, map-append, map-id}
use Rattle.std.proofs.lemmas.List.Elements.{All-head, All-tail, All-nil, All-append, All-map, All-weaker, All-filter, filter_map-append, filter_passes}
use Rattle.std.proofs.lemmas.List.Sorted.{IsPermutation-map}
use Rattle.std.proofs.lemmas.Simd.{map-map}
use Rattle.report_frame.specs.Reading.{fields_from}
use Rattle.adss_commit.specs.Derivation.{context_key}
use Rattle.star_lists.specs.FirstOnes.{first_ones}
use Rattle.star_lists.proofs.Elements.{filter_map_fewer}
use Rattle.star_lists.proofs.Places.{elements_at_places}
use Rattle.star_lists.proofs.Mapped.{flat_map-push, filter_map-within, map-filter_map, filter_map-none, All-first_ones}
use Rattle.tag_groups.specs.RowView.{RowView}
use Rattle.tag_groups.specs.GroupView.{GroupView}
use Rattle.tag_groups.specs.Keys.{same_key}
use Rattle.tag_groups.specs.Grouped.{group_of, groups_of}
use Rattle.tag_groups.specs.Left.{point_of, points_left_of}
use Rattle.tag_groups.proofs.Keys.{same_key_is}
use Rattle.layer_walk.specs.declared.auxiliary.Aux.{Aux}
use Rattle.layer_walk.specs.declared.group.GroupOut.{GroupOut}
use Rattle.layer_walk.specs.declared.keys.Keys.{Keys}
use Rattle.layer_walk.specs.declared.level.Level.{Level}
use Rattle.layer_walk.specs.declared.level.Parent.{Parent}
use Rattle.layer_walk.specs.declared.outcome.Outcome.TheVariants.{Opened, Few, NoLine, BadValue}
use Rattle.layer_walk.specs.declared.refusal.Refusal.{Refusal}
use Rattle.layer_walk.specs.Rows.{Row, same_group, members, first_members, points_left}
use Rattle.layer_walk.specs.Outcomes.{outcome_of, outcome_at}
use Rattle.layer_walk.specs.Members.{Next, keys_of, next_with, next_at, context_at}
use Rattle.layer_walk.specs.Bodies.{refusal_in, aux_in}
use Rattle.layer_walk.specs.Levels.{where_opened, stepped, under, child_of, child_row, by_groups, next_row, next_rows, refused_row, refusals_at, aux_row, aux_at}
use Rattle.layer_walk.specs.Outs.{IsOut, parent_at, group_members, group_points, group_check, group_keys, group_outcome, of_opened, of_group, inner_under, refusal_under, aux_under}
use Rattle.layer_walk.specs.Made.{of_level, named_row, named, row_cmp, AreOuts, IsLevel, group_child}
use Rattle.layer_walk.specs.Kept.{adopt, child_under, AreChildren, AdoptsMore, IsHeld, HoldsMore}
use Rattle.layer_walk.specs.declared.held.Children.{Children}
use Rattle.layer_walk.specs.declared.held.Held.{Held}
use Rattle.layer_walk.specs.Seen.{InnerView}
use Rattle.layer_walk.specs.Reveal.{no_parent}
use Rattle.layer_walk.proofs.HeldRows.{next_from, refused_from, aux_from}
use Rattle.layer_walk.proofs.Numbers.{members_named, same_named}
use Rattle.layer_walk.proofs.NextRows.{same_outcome, sorted_groups}

-- what a row makes of what it holds, where its group is opened
abbrev pub row_by : {X : Type 0} → ℕ → ℕ → List Row → (Row → List ℕ → Next → Option X) → Row → Option X
row_by e l rows h row = where_opened (λ value agree. h row value (next_at e l row value)) (outcome_at e l rows row)

-- the row has a parent
abbrev pub HasParent : Level → RowView → Type 0
HasParent level r = r.parent < length level.parents

module _ (level : Level) (good : IsLevel level) (first : RowView) (inside : first.parent < length level.parents) where
  abbrev pub N : RowView → Row
  N = named_row level.parents

  abbrev pub group : GroupView
  group = group_of level.rows first

  -- the members of the group
  abbrev pub mem : List RowView
  mem = filter (same_key first) level.rows

  -- a member is in the group and has a parent
  abbrev pub IsMember : RowView → Type 0
  IsMember r = (same_key first r ≡ true) × (r.parent < length level.parents)

  pub all_members : All IsMember mem
  all_members = λ k d lt. (filter_passes (same_key first) level.rows k d lt, All-filter (same_key first) (HasParent level) level.rows good.parents k d lt)

  pub at_places : group_members level group ≡ mem
  at_places = elements_at_places [] level.rows (same_key first) 0 level.rows refl refl

  pub named_members : members (named level) (N first) ≡ map N mem
  named_members = members_named level.parents good.distinct first level.rows inside good.parents

  pub member_outcome : (r : RowView) → IsMember r → of_level level outcome_at (N r) ≡ of_level level outcome_at (N first)
  member_outcome r h = sym (same_outcome level.epoch level.number (named level) (N first) (N r) (same_named level.parents good.distinct first r inside h.1 ∙ h.0))

  pub member_keys : (r : RowView) → IsMember r → (value : List ℕ) → keys_of r.report.version level.epoch level.number (context_key (context_at level.epoch level.number (N r) value)) ≡ group_keys level group value
  member_keys r h value =
      let s = same_key_is first r h.0 in
      λ i. keys_of (sym s.1 i).version level.epoch level.number (context_key (record { version = (sym s.1 i).version; parent = (parent_at level.parents (sym s.0 i)).check; epoch = level.epoch; level = level.number; k = (sym s.1 i).k; value = value }))

  pub member_child : (r : RowView) → IsMember r → (value : List ℕ) → group_child level group value ≡ child_of (N r) value
  member_child r h value =
      let s = same_key_is first r h.0 in
      λ i. record { path = (parent_at level.parents (s.0 i)).path ++ record { value = value; k = (s.1 i).k; version = (s.1 i).version } ∷ []; check = (s.1 i).check }

  pub same_points : group_points level group ≡ points_left (named level) (N first)
  same_points =
      ap points_left_of (
      sym (map-filter_map (λ (r : RowView). point_of r.report) (slice_get level.rows) group.members)
      ∙ ap (map (λ (r : RowView). point_of r.report)) at_places
      ∙ sym (map-map (λ (r : Row). point_of r.frame) N mem)
      ∙ ap (map (λ (r : Row). point_of r.frame)) (sym named_members)
      )

  pub outcome_is : group_outcome level group ≡ of_level level outcome_at (N first)
  unfolding outcome_at
  outcome_is = ap (outcome_of level.epoch level.number (group_check level group) group.head) same_points

  -- what the members of the group make, by the group's keys and outcome
  module _ {X : Type 0} (h : Row → List ℕ → Next → Option X) where
    -- what a member makes, in a group of this value
    abbrev pub made_by : List ℕ → RowView → Option X
    made_by value r = h (N r) value (next_with (group_keys level group value) r.report)

    pub per_group : filter_map (of_level level row_by h) (members (named level) (N first))
        ≡ of_opened (λ value. filter_map (made_by value) mem) (group_outcome level group)
    per_group =
        ap (filter_map (of_level level row_by h)) named_members
        ∙ filter_map-within IsMember (of_level level row_by h) N (λ r. where_opened (λ value agree. made_by value r)
        (group_outcome level group))
        (λ r m. λ i. where_opened (λ value agree. h (N r) value (next_with (member_keys r m value i) r.report)) ((member_outcome r m ∙ sym outcome_is) i))
        mem all_members
        ∙ elim (group_outcome level group) as (λ o. filter_map (λ r. where_opened (λ value agree. made_by value r) o) mem ≡ of_opened (λ value. filter_map (made_by value) mem) o) [
          | Opened value agree ↦ refl
          | Few ↦ filter_map-none mem
          | NoLine ↦ filter_map-none mem
          | BadValue ↦ filter_map-none mem
        ]

    -- what opening the group gives, where f says of the keys what h says of the row
    pub group_gives : (f : Keys → RowView → Option X)
        → ((value : List ℕ) (r : RowView) → f (group_keys level group value) r ≡ made_by value r)
        → of_group f level group ≡ filter_map (of_level level row_by h) (members (named level) (N first))
    group_gives f same =
        ap (λ ms. of_opened (λ value. filter_map (f (group_keys level group value)) ms) (group_outcome level group)) at_places
        ∙ (λ i. of_opened (λ value. filter_map (λ r. same value r i) mem) (group_outcome level group))
        ∙ sym per_group

  -- the rows of the next level, under the parent of this number
  pub rows_given : (n : ℕ) (parents : List Parent)
      → ((value : List ℕ) (agree : ℕ) → group_outcome level group ≡ Opened value agree
      → parent_at parents n ≡ group_child level group value)
      → map (named_row parents) (map (adopt n) (of_group inner_under level group))
      ≡ filter_map (of_level level next_row) (members (named level) (N first))
  rows_given n parents child =
      ap (λ ms. map (named_row parents) (map (adopt n) (of_opened (λ value. filter_map (inner_under (group_keys level group value)) ms) (group_outcome level group)))) at_places
      ∙ elim (group_outcome level group) as (λ o. group_outcome level group ≡ o → map (named_row parents) (map (adopt n) (of_opened (λ value. filter_map (inner_under (group_keys level group value)) mem) o)) ≡ of_opened (λ value. filter_map (made_by stepped value) mem) o) [
        | Opened value agree ↦ λ o.
            map-map (named_row parents) (adopt n) (filter_map (inner_under (group_keys level group value)) mem)
            ∙ map-filter_map (under (parent_at parents n)) (inner_under (group_keys level group value)) mem
            ∙ ap (filter_map (λ r. option_map (under (parent_at parents n)) (inner_under (group_keys level group value) r))) (sym (map-id mem))
            ∙ filter_map-within IsMember (λ r. option_map (under (parent_at parents n)) (inner_under (group_keys level group value) r)) (λ r. r) (made_by stepped value)
            (λ r m. ap (λ p. option_map (under p) (inner_under (group_keys level group value) r)) (child value agree o ∙ member_child r m value)) mem all_members
        | Few ↦ λ o. refl
        | NoLine ↦ λ o. refl
        | BadValue ↦ λ o. refl
      ] refl
      ∙ sym (per_group stepped)

parent_middle : (front : List Parent) (p : Parent) (rest : List Parent) → parent_at (front ++ p ∷ rest) (length front) ≡ p
parent_middle [] p rest = refl
parent_middle (q ∷ front) p rest = parent_middle front p rest

-- functions that agree where P holds
map_within : {X Y : Type 0} (P : X → Type 0) (f g : X → Y) → ((x : X) → P x → f x ≡ g x) → (xs : List X) → All P xs → map f xs ≡ map g xs
map_within P f g same [] all = refl
map_within P f g same (x ∷ xs) all = λ i. same x (All-head P x xs all) i ∷ map_within P f g same xs (All-tail P x xs all) i

-- what is refused of a row that holds this, and its extra bytes
abbrev pub refused_by : ℕ → Row → List ℕ → Next → Option Refusal
refused_by l row value next = refusal_in l row.index next

abbrev pub aux_by : ℕ → Row → List ℕ → Next → Option Aux
aux_by l row value next = aux_in l row.index next

-- one more group: that of this first member
module _ (level : Level) (good : IsLevel level) (first : RowView) (has_parent : HasParent level first) (firsts : List Row)
    (out : GroupOut) (is : IsOut level (group_of level.rows first) out) where
  abbrev seen : List Row
  seen = named level

  abbrev F : Row
  F = named_row level.parents first

  outcome_named : out.outcome ≡ outcome_at level.epoch level.number seen F
  outcome_named = is.outcome ∙ outcome_is level good first has_parent

  pub children_more : (old new : Children) → AreChildren level firsts old.parents old.rows.items
      → AdoptsMore level (group_of level.rows first) out.outcome out.inner old new
      → AreChildren level (firsts ++ F ∷ []) new.parents new.rows.items
  children_more old new so more =
      let g = group_of level.rows first in
      let next = next_row level.epoch level.number seen in
      let n = length old.parents in
      let added : List Parent = cons_option (child_under level g out.outcome) [] in
      let longer : length new.parents ≡ n + length added = ap length more.parents ∙ length-append old.parents added in
      let P : RowView → Type 0 = λ r. r.parent < length new.parents in
      let child : (value : List ℕ) (agree : ℕ) → group_outcome level g ≡ Opened value agree
      → parent_at new.parents n ≡ group_child level g value =
      λ value agree opened.
      ap (λ l. parent_at l n) (more.parents ∙ ap (λ o. old.parents ++ cons_option (child_under level g o) []) (is.outcome ∙ opened))
      ∙ parent_middle old.parents (group_child level g value) [] in
      let given : List ℕ → List InnerView = λ value. filter_map (inner_under (group_keys level g value)) (group_members level g) in
      let adopted : All P (map (adopt n) (of_opened given (group_outcome level g))) =
      elim (group_outcome level g) as (λ q. out.outcome ≡ q → All P (map (adopt n) (of_opened given q))) [
        | Opened value agree ↦ λ o.
            let one : length added ≡ 1 = ap (λ q. length (cons_option (child_under level g q) [])) o in
            All-map P (adopt n) (given value) (λ k d lt. omega (arith, longer, one))
        | Few ↦ λ o. All-nil P
        | NoLine ↦ λ o. All-nil P
        | BadValue ↦ λ o. All-nil P
      ] is.outcome in
      let here : map (named_row new.parents) (map (adopt n) out.inner) ≡ filter_map next (members seen F) =
      ap (λ l. map (named_row new.parents) (map (adopt n) l)) is.inner ∙ rows_given level good first has_parent n new.parents child in
      let before : map (named_row new.parents) old.rows.items ≡ map (named_row old.parents) old.rows.items =
      map_within (λ (r : RowView). r.parent < n) (named_row new.parents) (named_row old.parents)
      (λ r lt. ap (λ p. record { index = r.index; parent = p; frame = r.report })
      (ap (λ l. parent_at l r.parent) more.parents ∙ get_or_append_left old.parents added no_parent r.parent lt))
      old.rows.items so.inside in
      record {
        parents_are = more.parents ∙ (λ i. so.parents_are i ++ cons_option (child_under level g (outcome_named i)) [])
            ∙ sym (filter_map-append (child_row level.epoch level.number seen) firsts (F ∷ []));
        inside = subst (All P) (sym more.rows) (All-append P old.rows.items (map (adopt n) out.inner)
            (All-weaker (λ (r : RowView). r.parent < n) P (λ r lt. omega (arith, longer)) old.rows.items so.inside)
            (subst (λ l. All P (map (adopt n) l)) (sym is.inner) adopted));
        rows_are = ap (map (named_row new.parents)) more.rows ∙ map-append (named_row new.parents) old.rows.items (map (adopt n) out.inner)
            ∙ (λ i. (before ∙ so.rows_are) i ++ here i) ∙ sym (flat_map-push (λ one. filter_map next (members seen one)) firsts F);
      }

  pub held_more : (old new : Held) → IsHeld level firsts old → HoldsMore level (group_of level.rows first) out old new
      → IsHeld level (firsts ++ F ∷ []) new
  held_more old new so more = record {
    children = children_more old.children new.children so.children more.children;
    refusals = more.refusals
        ∙ (λ i. so.refusals i ++ (is.refusals
        ∙ group_gives level good first has_parent (refused_by level.number) refusal_under (λ value r. refl)) i)
        ∙ sym (flat_map-push (λ one. filter_map (refused_row level.epoch level.number seen) (members seen one)) firsts F);
    aux = more.aux
        ∙ (λ i. so.aux i ++ (is.aux ∙ group_gives level good first has_parent (aux_by level.number) aux_under (λ value r. refl)) i)
        ∙ sym (flat_map-push (λ one. filter_map (aux_row level.epoch level.number seen) (members seen one)) firsts F);
  }

-- there are no more parents than groups
pub few_children : (level : Level) (firsts : List Row) (parents : List Parent) (rows : List RowView) → AreChildren level firsts parents rows
    → length parents ≤ length firsts
few_children level firsts parents rows so =
    omega (arith, ap length so.parents_are, filter_map_fewer (of_level level child_row) firsts)

-- of no group nothing is held
pub none_children : (level : Level) → AreChildren level [] [] []
none_children level = record { parents_are = refl; inside = All-nil (λ (r : RowView). r.parent < 0); rows_are = refl }

-- the first members, named
pub first_ones_named : (parents : List Parent) → AllPairs (λ (p q : Parent). p.path ≢ q.path) parents → (rows : List RowView) → All (λ (r : RowView). r.parent < length parents) rows → first_ones same_group (map (named_row parents) rows) ≡ map (named_row parents) (first_ones same_key rows)
first_ones_named parents distinct [] h = refl
first_ones_named parents distinct (x ∷ xs) h =
    let P = λ (r : RowView). r.parent < length parents in
    let rest = first_ones_named parents distinct xs (All-tail P x xs h) in
    ap (λ l. named_row parents x ∷ filter (λ y. not (same_group (named_row parents x) y)) l) rest
    ∙ ap (λ l. named_row parents x ∷ l) (others_named (first_ones same_key xs) (All-first_ones P same_key xs (All-tail P x xs h)))
  where
    others_named : (ys : List RowView) → All (λ (r : RowView). r.parent < length parents) ys → filter (λ y. not (same_group (named_row parents x) y)) (map (named_row parents) ys) ≡ map (named_row parents) (filter (λ y. not (same_key x y)) ys)
    others_named [] a = refl
    others_named (y ∷ ys) a =
        let Q = λ (r : RowView). r.parent < length parents in
        let more = others_named ys (All-tail Q y ys a) in
        ap (λ b. cond (not b) (named_row parents y ∷ filter (λ y. not (same_group (named_row parents x) y)) (map (named_row parents) ys)) (filter (λ y. not (same_group (named_row parents x) y)) (map (named_row parents) ys))) (same_named parents distinct x y (All-head Q x xs h) (All-head Q y ys a))
        ∙ elim (same_key x y) as (λ b. cond (not b) (named_row parents y ∷ filter (λ y. not (same_group (named_row parents x) y)) (map (named_row parents) ys)) (filter (λ y. not (same_group (named_row parents x) y)) (map (named_row parents) ys)) ≡ map (named_row parents) (cond (not b) (y ∷ filter (λ y. not (same_key x y)) ys) (filter (λ y. not (same_key x y)) ys))) [
          | true ↦ more
          | false ↦ ap (λ l. named_row parents y ∷ l) more
        ]

pub some_row : RowView
some_row = record { index = 0; parent = 0; report = fields_from [] }

-- the rows ascend under their names too, where they do
sorted_named : (parents : List Parent) (rows : List RowView) → IsSorted row_cmp rows → IsSorted (λ (a b : Row). nat_cmp a.index b.index) (map (named_row parents) rows)
sorted_named parents rows h k d low lt =
    let long : length (map (named_row parents) rows) ≡ length rows = length-map rows (named_row parents) in
    let here : get_or (map (named_row parents) rows) (k + 1) d ≡ named_row parents (get_or rows (k + 1) some_row) = get_or-map (named_row parents) rows (k + 1) some_row d (omega arith) in
    let before : get_or (map (named_row parents) rows) k d ≡ named_row parents (get_or rows k some_row) = get_or-map (named_row parents) rows k some_row d (omega arith) in
    (λ i. is_lt (nat_cmp (here i).index (before i).index)) ∙ h k some_row low (omega arith)

module _ (level : Level) (good : IsLevel level) (groups : List GroupView) (gs : groups ≡ groups_of level.rows) (outs : List GroupOut) (zip : AreOuts level groups outs) where
  abbrev pub firsts : List RowView
  firsts = first_ones same_key level.rows

  pub firsts_inside : All (HasParent level) firsts
  firsts_inside = All-first_ones (HasParent level) same_key level.rows good.parents

  pub firsts_zip : AllZip (IsOut level) (map (group_of level.rows) firsts) outs
  unfolding groups_of
  firsts_zip = subst (λ g. AllZip (IsOut level) g outs) gs zip

module _ (level : Level) (good : IsLevel level) where
  -- What is made group by group and then sorted is what the rows make.
  pub sorted_rows_are : {X : Type 0} (number : X → ℕ) (f : Row → Option X) → ((row : Row) (x : X) → f row ≡ Some x → number x ≡ row.index)
      → (made sorted : List X) → made ≡ by_groups f (named level) (first_members (named level)) → IsPermutation made sorted
      → IsSorted (λ (a b : X). nat_cmp (number a) (number b)) sorted → sorted ≡ filter_map f (named level)
  sorted_rows_are number f kept made sorted is moved order =
      sorted_groups number f kept (named level) made sorted good.ascending is moved order

  pub after_rows : (parents : List Parent) (rows sorted : List RowView) → AreChildren level (first_members (named level)) parents rows
      → IsPermutation rows sorted → IsSorted row_cmp sorted → map (named_row parents) sorted ≡ of_level level next_rows
  unfolding next_rows
  after_rows parents rows sorted so moved order =
      sorted_rows_are (λ (r : Row). r.index) (of_level level next_row)
      (λ row next is. (next_from level.epoch level.number (named level) row next is).index)
      (map (named_row parents) rows) (map (named_row parents) sorted) so.rows_are
      (IsPermutation-map (named_row parents) rows sorted moved) (sorted_named parents sorted order)

  pub refusals_given : (made sorted : List Refusal)
      → made ≡ by_groups (of_level level refused_row) (named level) (first_members (named level))
      → IsPermutation made sorted → IsSorted (λ (a b : Refusal). nat_cmp a.index b.index) sorted → sorted ≡ of_level level refusals_at
  unfolding refusals_at
  refusals_given =
      sorted_rows_are (λ (r : Refusal). r.index) (of_level level refused_row)
      (λ row a is. (refused_from level.epoch level.number (named level) row a is).index)

  pub aux_given : (made sorted : List Aux) → made ≡ by_groups (of_level level aux_row) (named level) (first_members (named level))
      → IsPermutation made sorted → IsSorted (λ (a b : Aux). nat_cmp a.index b.index) sorted → sorted ≡ of_level level aux_at
  unfolding aux_at
  aux_given =
      sorted_rows_are (λ (a : Aux). a.index) (of_level level aux_row)
      (λ row a is. (aux_from level.epoch level.number (named level) row a is).index)
