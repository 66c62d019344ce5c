-- What is made of the groups of a level is what its rows say.
use Rattle.std.proofs.Common.{◌≡◌, ℕ, ◌+◌, ◌<◌, get_or, take, List, [], ◌∷◌, ◌++◌, Option, Some, None, length, map, refl, sym, ap, ◌∙◌, All}
use Rattle.std.specs.List.{filter_map, flat_map, cons_option}
use Rattle.std.specs.Option.{option_map, option_to_list}
use Rattle.std.proofs.lemmas.List.Elements.{All-head, All-tail}
use Rattle.report_frame.specs.View.{head_of}
use Rattle.shamir_limbs.specs.Numbers.{line_numbers}
use Rattle.star_lists.specs.FirstOnes.{first_ones}
use Rattle.star_lists.proofs.Mapped.{All-first_ones, flat_map-push, take-step}
use Rattle.tag_groups.specs.RowView.{RowView}
use Rattle.tag_groups.specs.GroupView.{GroupView}
use Rattle.tag_groups.specs.Keys.{same_key}
use Rattle.tag_groups.specs.Grouped.{group_of, groups_of}
use Rattle.layer_walk.specs.declared.level.Level.{Level}
use Rattle.layer_walk.specs.declared.outcome.Outcome.{Outcome}
use Rattle.layer_walk.specs.declared.outcome.Outcome.TheVariants.{Opened, Few, NoLine, BadValue}
use Rattle.layer_walk.specs.declared.revealed.OpenedGroup.{OpenedGroup}
use Rattle.layer_walk.specs.Made.{of_level, named_row, IsLevel}
use Rattle.layer_walk.specs.Outs.{group_points, group_outcome}
use Rattle.layer_walk.specs.Told.{told_under}
use Rattle.layer_walk.proofs.Making.{HasParent, same_points, first_ones_named}
use Rattle.layer_walk.proofs.Telling.{told_option, group_told}
use Rattle.open_cert.specs.declared.certified.Certified.{Certified}
use Rattle.open_cert.specs.Certs.{row_cert, with_cert, certified_row, certified_at}
use Rattle.open_cert.specs.Made.{group_cert, certified_under, certified_groups}

-- a group that is told is at most one
under_cons : (level : Level) (g : GroupView) (n : ℕ) (f : OpenedGroup → Certified) (outcome : Outcome) (rest : List Certified)
    → map f (told_under level g n outcome) ++ rest ≡ cons_option (option_map f (told_option level g n outcome)) rest
under_cons level g n f (Opened value agree) rest = refl
under_cons level g n f Few rest = refl
under_cons level g n f NoLine rest = refl
under_cons level g n f BadValue rest = refl

-- one more group
pub groups_step : (level : Level) (groups : List GroupView) (i : ℕ) (g : GroupView) (o : Outcome) (made longer one : List Certified) → i < length groups → g ≡ get_or groups i g
    → o ≡ group_outcome level g → made ≡ certified_groups level (take i groups) → one ≡ certified_under level g o → longer ≡ made ++ one → longer ≡ certified_groups level (take (i + 1) groups)
groups_step level groups i g o made longer one lt at out so is joined =
    let f : GroupView → List Certified = λ group. certified_under level group (group_outcome level group) in
    joined ∙ (λ j. so j ++ (is ∙ ap (certified_under level g) out) j) ∙ sym (flat_map-push f (take i groups) g) ∙ ap (flat_map f) (sym (take-step groups i g lt at))

-- an option with nothing in it is no element
pub none_list : {X : Type 0} (o : Option X) → ((x : X) → o ≡ Some x → ⊥) → option_to_list o ≡ []
none_list None none = refl
none_list (Some x) none = absurd (none x refl)

module _ (level : Level) (good : IsLevel level) where
  -- the certificate of a group is that of its first member
  same_cert : (first : RowView) → HasParent level first
      → group_cert level (group_of level.rows first) ≡ of_level level row_cert (named_row level.parents first)
  same_cert first inside =
      let points = same_points level good first inside in
      λ i. record {
        level = level.number;
        epoch = level.epoch;
        parent = (named_row level.parents first).parent.check;
        head = head_of first.report;
        points = points i;
        numbers = line_numbers (points i) first.report.k;
      }

  certified_firsts : (xs : List RowView) → All (HasParent level) xs
      → certified_groups level (map (group_of level.rows) xs) ≡ filter_map (of_level level certified_row) (map (named_row level.parents) xs)
  certified_firsts [] inside = refl
  certified_firsts (x ∷ xs) inside =
      let g = group_of level.rows x in
      let here = All-head (HasParent level) x xs inside in
      let rest = certified_groups level (map (group_of level.rows) xs) in
      under_cons level g (length (group_points level g)) (with_cert (group_cert level g)) (group_outcome level g) rest
      ∙ (λ i. cons_option (option_map (with_cert (same_cert x here i)) (group_told level good x here i)) (certified_firsts xs (All-tail (HasParent level) x xs inside) i))

  -- the groups of a level
  pub groups_certified : (groups : List GroupView) → groups ≡ groups_of level.rows
      → certified_groups level groups ≡ of_level level certified_at
  unfolding groups_of certified_at
  groups_certified groups gs =
      let firsts = first_ones same_key level.rows in
      ap (certified_groups level) gs
      ∙ certified_firsts firsts (All-first_ones (HasParent level) same_key level.rows good.parents)
      ∙ ap (filter_map (of_level level certified_row)) (sym (first_ones_named level.parents good.distinct level.rows good.parents))
