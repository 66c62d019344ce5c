-- What a level tells, group by group, is what its first members tell.
use Rattle.std.proofs.Common.{◌≡◌, ℕ, ◌≤◌, Bool, List, [], ◌∷◌, ◌<◌, ◌+◌, ◌++◌, Option, None, Some, length, take, get_or, subst, map, filter, refl, sym, ap, ◌∙◌, arith, All}
use Rattle.std.specs.List.{AllZip, slice_get}
use Rattle.std.proofs.lemmas.List.{length-map, length-take, get_or-map, get_or_default}
use Rattle.std.proofs.lemmas.List.Elements.{All-head, All-tail}
use Rattle.star_lists.specs.FirstOnes.{first_ones}
use Rattle.star_lists.proofs.Elements.{filter_fewer}
use Rattle.star_lists.proofs.Mapped.{take-step}
use Rattle.tag_groups.specs.RowView.{RowView}
use Rattle.tag_groups.specs.GroupView.{GroupView}
use Rattle.tag_groups.specs.Keys.{same_key}
use Rattle.tag_groups.specs.Grouped.{group_of, groups_of}
use Rattle.layer_walk.specs.declared.group.GroupOut.{GroupOut}
use Rattle.layer_walk.specs.declared.outcome.Outcome.{Outcome}
use Rattle.layer_walk.specs.declared.outcome.Outcome.TheVariants.{Opened, Few, NoLine, BadValue}
use Rattle.layer_walk.specs.declared.level.Level.{Level}
use Rattle.layer_walk.specs.declared.revealed.OpenedGroup.{OpenedGroup}
use Rattle.layer_walk.specs.Rows.{Row, members, first_members}
use Rattle.layer_walk.specs.Outcomes.{outcome_at}
use Rattle.layer_walk.specs.Levels.{where_opened, path_with, opened_row, counts_of, counts_at}
use Rattle.layer_walk.specs.Outs.{IsOut, group_points, group_outcome}
use Rattle.layer_walk.specs.Made.{of_level, named_row, named, AreOuts, IsLevel, group_child}
use Rattle.layer_walk.specs.Told.{outcomes_of}
use Rattle.layer_walk.proofs.Fits.{length-places_from}
use Rattle.layer_walk.proofs.Making.{HasParent, mem, named_members, same_points, outcome_is, firsts_inside, firsts_zip, first_ones_named, some_row}
use Rattle.layer_walk.proofs.Pairs.{zip_lengths, zip_at, group_at, some_group}

-- the group as it is told, as an option
abbrev pub told_option : Level → GroupView → ℕ → Outcome → Option OpenedGroup
told_option level g points outcome =
    where_opened (λ value agree. Some (record { path = (group_child level g value).path; points = points; agree = agree; members = length g.members })) outcome

module _ (level : Level) (good : IsLevel level) where
  -- and that is what its first member tells
  pub group_told : (first : RowView) → HasParent level first
      → told_option level (group_of level.rows first) (length (group_points level (group_of level.rows first)))
      (group_outcome level (group_of level.rows first)) ≡ of_level level opened_row (named_row level.parents first)
  group_told first inside =
      let outcome = outcome_is level good first inside in
      let points = ap length (same_points level good first inside) in
      let count : length (group_of level.rows first).members ≡ length (members (named level) (named_row level.parents first)) =
      length-places_from 0 (same_key first) level.rows ∙ sym (length-map (mem level good first inside) (named_row level.parents)) ∙ ap length (sym (named_members level good first inside)) in
      λ i. where_opened (λ value agree. Some (record { path = path_with (named_row level.parents first) value; points = points i; agree = agree; members = count i })) (outcome i)

  firsts_out : (xs : List RowView) → All (HasParent level) xs → (outs : List GroupOut)
      → AllZip (IsOut level) (map (group_of level.rows) xs) outs
      → outcomes_of outs ≡ map (of_level level outcome_at) (map (named_row level.parents) xs)
  firsts_out [] inside [] zip = refl
  firsts_out [] inside (o ∷ os) zip = absurd zip
  firsts_out (x ∷ xs) inside [] zip = absurd zip
  firsts_out (x ∷ xs) inside (o ∷ os) zip =
      λ i. (zip.0.outcome ∙ outcome_is level good x (All-head (HasParent level) x xs inside)) i ∷ firsts_out xs (All-tail (HasParent level) x xs inside) os zip.1 i

  module _ (groups : List GroupView) (gs : groups ≡ groups_of level.rows) (outs : List GroupOut) (zip : AreOuts level groups outs) where
    first_named : first_members (named level) ≡ map (named_row level.parents) (first_ones same_key level.rows)
    first_named = first_ones_named level.parents good.distinct level.rows good.parents

    pub counts_told : counts_of (outcomes_of outs) ≡ of_level level counts_at
    unfolding counts_at
    counts_told = ap counts_of (firsts_out (first_ones same_key level.rows) (firsts_inside level good groups gs outs zip) outs
        (firsts_zip level good groups gs outs zip) ∙ ap (map (of_level level outcome_at)) (sym first_named))

    abbrev pub all_firsts : List Row
    all_firsts = first_members (named level)

    -- The out at a place is that of the first member there, which is the next in the list of these.
    pub record OutAt (i : ℕ) (out : GroupOut) : Type 0 where
      pub first : RowView
      pub inside : HasParent level first
      pub is_out : IsOut level (group_of level.rows first) out
      pub outcome : out.outcome ≡ of_level level outcome_at (named_row level.parents first)
      pub more : take (i + 1) all_firsts ≡ take i all_firsts ++ named_row level.parents first ∷ []
      pub group : (g : GroupView) → slice_get groups i ≡ Some g → g ≡ group_of level.rows first

    pub out_at : (i : ℕ) (out : GroupOut) → i < length outs → out ≡ get_or outs i out → OutAt i out
    unfolding groups_of
    out_at i out lt at =
        let xs = first_ones same_key level.rows in
        let zip' = firsts_zip level good groups gs outs zip in
        let count : length outs ≡ length xs = zip_lengths (IsOut level) (map (group_of level.rows) xs) outs zip'
        ∙ length-map xs (group_of level.rows) in
        let first = get_or xs i some_row in
        let here : i < length xs = omega arith in
        let inside = firsts_inside level good groups gs outs zip i some_row here in
        let group : get_or groups i some_group ≡ group_of level.rows first = ap (λ l. get_or l i some_group) gs
        ∙ get_or-map (group_of level.rows) xs i some_row some_group here in
        let is : IsOut level (group_of level.rows first) out =
        subst (λ g. IsOut level g out) group (subst (IsOut level (get_or groups i some_group)) (sym at)
        (zip_at (IsOut level) groups outs i some_group out zip (omega (arith, zip_lengths (IsOut level) groups outs zip)))) in
        let F = named_row level.parents first in
        let there : F ≡ get_or all_firsts i F =
        sym (ap (λ l. get_or l i F) first_named ∙ get_or-map (named_row level.parents) xs i some_row F here) in
        let many : i < length all_firsts = omega (arith, ap length first_named, length-map xs (named_row level.parents)) in
        record {
          first = first;
          inside = inside;
          is_out = is;
          outcome = is.outcome ∙ outcome_is level good first inside;
          more = take-step all_firsts i F many there;
          group = λ g found. group_at groups i g (omega (arith, zip_lengths (IsOut level) groups outs zip)) found
              ∙ get_or_default groups i g some_group (omega (arith, zip_lengths (IsOut level) groups outs zip)) ∙ group;
        }

    -- there are as many outs as first members
    pub outs_count : length outs ≡ length all_firsts
    unfolding groups_of
    outs_count =
        let xs = first_ones same_key level.rows in
        zip_lengths (IsOut level) (map (group_of level.rows) xs) outs (firsts_zip level good groups gs outs zip)
        ∙ length-map xs (group_of level.rows)
        ∙ sym (ap length first_named ∙ length-map xs (named_row level.parents))

-- what isn't opened gives nothing
pub shut_none : {X : Type 0} (f : List ℕ → ℕ → Option X) (o : Outcome) → ((v : List ℕ) (a : ℕ) → o ≡ Opened v a → ⊥)
    → where_opened f o ≡ None
shut_none f (Opened v a) h = absurd (h v a refl)
shut_none f Few h = refl
shut_none f NoLine h = refl
shut_none f BadValue h = refl

-- ---- counting

length-take-less : {X : Type 0} (n : ℕ) (xs : List X) → length (take n xs) ≤ n
length-take-less n xs = omega (arith, length-take n xs)

-- no more were counted than there were
pub few_counted : (p : Outcome → Bool) (outs : List GroupOut) (i : ℕ) → length (filter p (outcomes_of (take i outs))) ≤ i
few_counted p outs i =
    omega (arith, filter_fewer p (outcomes_of (take i outs)), length-map (take i outs) (λ (o : GroupOut). o.outcome), length-take-less i outs)
