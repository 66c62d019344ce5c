-- Rows that stand equally often in two lists, whatever their numbers, give the same groups, and the same next rows equally often.
use Rattle.std.proofs.Common.{◌≡◌, ℕ, zero, suc, Bool, true, false, ◌&&◌, ◌||◌, List, [], ◌∷◌, Option, inl, inr, refl, sym, ap, ◌∙◌, subst, map, filter, length}
use Rattle.std.proofs.lemmas.Bool.{false≢true, and_from}
use Rattle.std.specs.List.{filter_map, list_any}
use Rattle.std.specs.Option.{option_map}
use Rattle.std.specs.Cmp.{both_ways, first_so, second_so}
use Rattle.report_frame.specs.View.{head_of}
use Rattle.shamir_limbs.specs.declared.share.Point.{Point}
use Rattle.star_lists.proofs.Elements.{In, in_filter, from_filter, any_in}
use Rattle.star_lists.specs.Elements.{EquallyOften}
use Rattle.star_lists.proofs.Inside.{in_map, from_map}
use Rattle.star_lists.proofs.Mapped.{filter_map-map}
use Rattle.star_lists.proofs.Counted.{length-filter-map, often_filter_map, other_passes, turned_often}
use Rattle.tag_groups.specs.Keys.{same_head}
use Rattle.tag_groups.specs.Left.{point_of}
use Rattle.layer_walk.specs.declared.outcome.Outcome.{Outcome}
use Rattle.layer_walk.specs.declared.outcome.Outcome.TheVariants.{Opened, Few, NoLine, BadValue}
use Rattle.layer_walk.specs.Rows.{Row, same_parent, same_group, members, points_left}
use Rattle.layer_walk.specs.Outcomes.{outcome_of, outcome_at}
use Rattle.layer_walk.specs.Members.{Next, next_at}
use Rattle.layer_walk.specs.Members.Next.{Refused, Last, Inner}
use Rattle.layer_walk.specs.Levels.{where_opened, stepped, next_row, next_rows, rows_from}
use Rattle.layer_walk.specs.Laws.{Report, report_of, reports, has_group, SameWalk}
use Rattle.layer_walk.proofs.PointFacts.{same_point, same_point_is, same_point_of, same_points_left}

-- a report of the row's group
abbrev pub of_group : Row → Report → Bool
of_group row r = same_parent row.parent r.parent && same_head (head_of row.frame) (head_of r.frame)

-- the row of a report, with the number 0
abbrev pub row_with : Report → Row
row_with r = record { index = 0; parent = r.parent; frame = r.frame }

any_some : {X : Type 0} (p : X → Bool) (zs : List X) → list_any p zs ≡ true → (z : X) × In z zs × (p z ≡ true)
any_some p [] h = absurd (false≢true h)
any_some p (z ∷ zs) h = elim (p z) as (λ b. p z ≡ b → (b || list_any p zs) ≡ true → (y : _) × In y (z ∷ zs) × (p y ≡ true)) [
  | true ↦ λ e k. (z, inl refl, e)
  | false ↦ λ e k. let r = any_some p zs k in (r.0, inr r.1, r.2)
] refl h

module _ (xs ys : List Row) (often : EquallyOften (reports xs) (reports ys)) where
  -- a row of the one list that passes a test on reports has one of the other that does
  pub other_row : (p : Report → Bool) (x : Row) → In x xs → p (report_of x) ≡ true → (y : Row) × In y ys × (p (report_of y) ≡ true)
  other_row p x i t =
      let r = other_passes (reports xs) (reports ys) often p (report_of x) (in_map report_of x xs i) t in
      let m = from_map report_of r.0 ys r.1 in
      (m.0, m.1, ap p m.2 ∙ r.2)

  point_over : (row : Row) (p : Point) → In p (map (λ (r : Row). point_of r.frame) (members xs row)) → In p (map (λ (r : Row). point_of r.frame) (members ys row))
  point_over row p i =
      let m = from_map (λ (r : Row). point_of r.frame) p (members xs row) i in
      let f = from_filter (same_group row) xs m.0 m.1 in
      let t : (of_group row (report_of m.0) && same_point p (point_of m.0.frame)) ≡ true = and_from _ _ f.1 (same_point_of p (point_of m.0.frame) (sym m.2)) in
      let o = other_row (λ r. of_group row r && same_point p (point_of r.frame)) m.0 f.0 t in
      let inside : In o.0 (members ys row) = in_filter (same_group row) ys o.0 o.1 (first_so (same_group row o.0) _ o.2) in
      let is : p ≡ point_of o.0.frame = same_point_is p (point_of o.0.frame) (second_so (same_group row o.0) _ o.2) in
      subst (λ q. In q (map (λ (r : Row). point_of r.frame) (members ys row))) (sym is) (in_map (λ (r : Row). point_of r.frame) o.0 (members ys row) inside)

  group_over : (row : Row) → has_group xs row ≡ true → has_group ys row ≡ true
  group_over row h =
      let s = any_some (same_group row) xs h in
      let o = other_row (of_group row) s.0 s.1 s.2 in
      any_in (same_group row) ys o.0 o.1 o.2

module _ (xs ys : List Row) (often : EquallyOften (reports xs) (reports ys)) where
  pub points-alike : (row : Row) → points_left xs row ≡ points_left ys row
  points-alike row =
      same_points_left (map (λ (r : Row). point_of r.frame) (members xs row)) (map (λ (r : Row). point_of r.frame) (members ys row))
      (point_over xs ys often row) (point_over ys xs (turned_often (reports xs) (reports ys) often) row)

  pub outcome-alike : (e l : ℕ) (row : Row) → outcome_at e l xs row ≡ outcome_at e l ys row
  unfolding outcome_at
  outcome-alike e l row = ap (outcome_of e l row.parent.check (head_of row.frame)) (points-alike row)

  pub members-alike : (row : Row) → length (members xs row) ≡ length (members ys row)
  members-alike row = sym (length-filter-map (of_group row) report_of xs) ∙ often (of_group row) ∙ length-filter-map (of_group row) report_of ys

  group-alike : (row : Row) → has_group xs row ≡ has_group ys row
  group-alike row = both_ways (has_group xs row) (has_group ys row) (group_over xs ys often row) (group_over ys xs (turned_often (reports xs) (reports ys) often) row)

-- what is held doesn't look at the number
number_free : (e l : ℕ) (rows : List Row) (row : Row) → option_map report_of (next_row e l rows (row_with (report_of row))) ≡ option_map report_of (next_row e l rows row)
unfolding outcome_at
number_free e l rows row = under (outcome_at e l rows row)
  where
    one : (value : List ℕ) (n : Next) → option_map report_of (stepped (row_with (report_of row)) value n) ≡ option_map report_of (stepped row value n)
    one value (Refused why) = refl
    one value (Last extra) = refl
    one value (Inner frame) = refl

    under : (o : Outcome) → option_map report_of (where_opened (λ value agree. stepped (row_with (report_of row)) value (next_at e l (row_with (report_of row)) value)) o) ≡ option_map report_of (where_opened (λ value agree. stepped row value (next_at e l row value)) o)
    under (Opened value agree) = one value (next_at e l row value)
    under Few = refl
    under NoLine = refl
    under BadValue = refl

abbrev next_report : ℕ → ℕ → List Row → Report → Option Report
next_report e l rows r = option_map report_of (next_row e l rows (row_with r))

next_reports : (e l : ℕ) (rows : List Row) → reports (next_rows e l rows) ≡ filter_map (next_report e l rows) (reports rows)
unfolding next_rows
next_reports e l rows = sym (filter_map-map (next_report e l rows) (next_row e l rows) report_of report_of (number_free e l rows) rows)

next-alike : (e l : ℕ) (xs ys : List Row) → EquallyOften (reports xs) (reports ys) → EquallyOften (reports (next_rows e l xs)) (reports (next_rows e l ys))
next-alike e l xs ys often p =
    let agree : (r : Report) → next_report e l xs r ≡ next_report e l ys r = λ r. ap (λ o. option_map report_of (where_opened (λ value agree. stepped (row_with r) value (next_at e l (row_with r) value)) o)) (outcome-alike xs ys often e l (row_with r)) in
    ap (λ rs. length (filter p rs)) (next_reports e l xs)
    ∙ often_filter_map (next_report e l xs) (reports xs) (reports ys) often p
    ∙ ap (λ rs. length (filter p rs)) ((λ i. filter_map (λ r. agree r i) (reports ys)) ∙ sym (next_reports e l ys))

-- the law of one level
pub same_walk : (e l : ℕ) (xs ys : List Row) → EquallyOften (reports xs) (reports ys) → SameWalk e l xs ys
same_walk e l xs ys often = record {
  groups = group-alike xs ys often;
  points = points-alike xs ys often;
  outcomes = outcome-alike xs ys often e l;
  members = members-alike xs ys often;
  next = next-alike e l xs ys often;
}

-- the rows of each level stand equally often
pub rows_from-alike : (e : ℕ) (xs ys : List Row) → EquallyOften (reports xs) (reports ys) → (l : ℕ) → EquallyOften (reports (rows_from e xs l)) (reports (rows_from e ys l))
unfolding rows_from
rows_from-alike e xs ys often zero = often
rows_from-alike e xs ys often (suc l) = next-alike e l (rows_from e xs l) (rows_from e ys l) (rows_from-alike e xs ys often l)
