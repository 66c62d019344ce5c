-- Records with the same frames, each equally often, tell the same groups, levels and rows.
use Rattle.std.proofs.Common.{◌≡◌, ℕ, zero, suc, ◌+◌, ◌≤◌, Bool, true, List, [], ◌∷◌, ◌++◌, Some, Ok, Err, inl, inr, refl, sym, ap, ◌∙◌, map, filter, length, arith}
use Rattle.std.proofs.lemmas.List.{length-map}
use Rattle.std.proofs.lemmas.List.Elements.{filter_agree}
use Rattle.std.specs.List.{cons_option}
use Rattle.report_frame.specs.Frame.{Fields}
use Rattle.star_io.specs.declared.record.Record.{Record}
use Rattle.star_lists.specs.Ascending.{in_order}
use Rattle.star_lists.specs.Numbered.{numbered_from, joined_below}
use Rattle.star_lists.proofs.Elements.{In}
use Rattle.star_lists.proofs.FirstOnes.{apart_firsts, in_firsts}
use Rattle.star_lists.proofs.Rising.{same_rising}
use Rattle.star_lists.specs.Elements.{EquallyOften}
use Rattle.star_lists.proofs.Inside.{in_filter_map, first_one_for, from_filter_map, in_either, in_left, in_right, from_in_order, in_in_order}
use Rattle.star_lists.proofs.Counted.{length-filter-map, no_fewer, turned_often, equally_long}
use Rattle.tag_groups.specs.Left.{point_of, points_left_of}
use Rattle.layer_walk.specs.declared.outcome.Outcome.{Outcome}
use Rattle.layer_walk.specs.declared.revealed.OpenedGroup.{OpenedGroup}
use Rattle.layer_walk.specs.Rows.{Row, same_group, first_members}
use Rattle.layer_walk.specs.Outcomes.{outcome_at}
use Rattle.layer_walk.specs.Levels.{where_opened, rows_from, opened_row, opened_at, path_with, is_opened, is_few, is_no_line, is_bad_value, count_of, counts_of, counts_at}
use Rattle.layer_walk.specs.Reveal.{first_frame, no_parent, row_of, some_of, outer_rows, by_path, level_count, groups_told, levels_told, reveal_of}
use Rattle.layer_walk.specs.Laws.{Report, report_of, reports, frame_in, first_frames, TellAlike}
use Rattle.layer_walk.proofs.NextRows.{same_outcome}
use Rattle.layer_walk.proofs.Same.{one_group, itself, turned, joins, same_members}
use Rattle.layer_walk.proofs.Orders.{path_total}
use Rattle.layer_walk.proofs.WholeReveal.{groups_rise}
use Rattle.layer_walk.proofs.Alike.{other_row, of_group, points-alike, outcome-alike, members-alike, rows_from-alike}

-- rows of one group are told as one group
pub same_opened : (e l : ℕ) (rows : List Row) (a b : Row) → same_group a b ≡ true → opened_row e l rows a ≡ opened_row e l rows b
same_opened e l rows a b h =
    let g = one_group a b h in
    let m = same_members a b h rows in
    let o = same_outcome e l rows a b h in
    λ i. where_opened (λ value agree. Some (record {
      path = (g.parent i).path ++ record { value = value; k = (g.head i).k; version = (g.head i).version } ∷ [];
      points = length (points_left_of (map (λ (r : Row). point_of r.frame) (m i)));
      agree = agree;
      members = length (m i);
    })) (o i)

module _ (xs ys : List Row) (often : EquallyOften (reports xs) (reports ys)) where
  -- a row's group has a first member in the other list
  other_first : (a : Row) → In a xs → (b : Row) × In b (first_members ys) × (same_group b a ≡ true)
  other_first a i =
      let o = other_row xs ys often (of_group a) a i (itself a) in
      let f = first_one_for same_group itself joins o.0 ys o.1 in
      (f.0, f.1, joins f.0 o.0 a f.2 (turned a o.0 o.2))

  opened-alike : (e l : ℕ) (row : Row) → opened_row e l xs row ≡ opened_row e l ys row
  opened-alike e l row =
      let p = points-alike xs ys often row in
      let m = members-alike xs ys often row in
      let o = outcome-alike xs ys often e l row in
      λ i. where_opened (λ value agree. Some (record { path = path_with row value; points = length (p i); agree = agree; members = m i })) (o i)

  opened_over : (e l : ℕ) (g : OpenedGroup) → In g (opened_at e l xs) → In g (opened_at e l ys)
  unfolding opened_at
  opened_over e l g i =
      let f = from_filter_map (opened_row e l xs) (first_members xs) g i in
      let b = other_first f.0 (in_firsts same_group xs f.0 f.1) in
      in_filter_map (opened_row e l ys) (first_members ys) b.0 g b.1 (same_opened e l ys b.0 f.0 b.2 ∙ sym (opened-alike e l f.0) ∙ f.2)

  fewer_firsts : (test : Row → Bool) → ((a b : Row) → same_group a b ≡ true → test a ≡ test b) → length (filter test (first_members xs)) ≤ length (filter test (first_members ys))
  fewer_firsts test respects =
      no_fewer same_group turned joins test respects (first_members xs) (first_members ys) (apart_firsts same_group xs)
      (λ a i. let b = other_first a (in_firsts same_group xs a i) in (b.0, b.1, turned b.0 a b.2))

module _ (xs ys : List Row) (often : EquallyOften (reports xs) (reports ys)) where
  same_firsts : (test : Row → Bool) → ((a b : Row) → same_group a b ≡ true → test a ≡ test b) → length (filter test (first_members xs)) ≡ length (filter test (first_members ys))
  same_firsts test respects =
      let there = fewer_firsts xs ys often test respects in
      let back = fewer_firsts ys xs (turned_often (reports xs) (reports ys) often) test respects in
      omega (arith, there, back)

  -- how many groups come out so
  outcomes-counted : (e l : ℕ) (test : Outcome → Bool) → length (filter test (map (outcome_at e l xs) (first_members xs))) ≡ length (filter test (map (outcome_at e l ys) (first_members ys)))
  outcomes-counted e l test =
      length-filter-map test (outcome_at e l xs) (first_members xs)
      ∙ same_firsts (λ row. test (outcome_at e l xs row)) (λ a b h. ap test (same_outcome e l xs a b h))
      ∙ ap length (filter_agree (λ row. test (outcome_at e l xs row)) (λ row. test (outcome_at e l ys row)) (λ row. ap test (outcome-alike xs ys often e l row)) (first_members ys))
      ∙ sym (length-filter-map test (outcome_at e l ys) (first_members ys))

  counts-alike : (e l : ℕ) → counts_at e l xs ≡ counts_at e l ys
  unfolding counts_at
  counts-alike e l =
      same_counts (map (outcome_at e l xs) (first_members xs)) (map (outcome_at e l ys) (first_members ys)) (outcomes-counted e l)
    where
      same_count : (os ps : List Outcome) → EquallyOften os ps → count_of os ≡ count_of ps
      same_count os ps h = λ i. record { opened = h is_opened i; few = h is_few i; no_line = h is_no_line i; bad_value = h is_bad_value i }

      same_counts : (os ps : List Outcome) → EquallyOften os ps → counts_of os ≡ counts_of ps
      same_counts [] [] h = refl
      same_counts [] (p ∷ ps) h = absurd (omega (arith, equally_long [] (p ∷ ps) h))
      same_counts (o ∷ os) [] h = absurd (omega (arith, equally_long (o ∷ os) [] h))
      same_counts (o ∷ os) (p ∷ ps) h = ap (λ c. c ∷ []) (same_count (o ∷ os) (p ∷ ps) h)

told_over : (e : ℕ) (xs ys : List Row) → EquallyOften (reports xs) (reports ys) → (n : ℕ) (g : OpenedGroup) → In g (groups_told e xs n) → In g (groups_told e ys n)
unfolding groups_told
told_over e xs ys often zero g i = absurd i
told_over e xs ys often (suc n) g i = elim (in_either g (groups_told e xs n) (opened_at e n (rows_from e xs n)) i) [
  | inl j ↦ in_left g (groups_told e ys n) (opened_at e n (rows_from e ys n)) (told_over e xs ys often n g j)
  | inr j ↦ in_right g (groups_told e ys n) (opened_at e n (rows_from e ys n)) (opened_over (rows_from e xs n) (rows_from e ys n) (rows_from-alike e xs ys often n) e n g j)
]

same_lengths : (xs ys : List Row) → EquallyOften (reports xs) (reports ys) → length xs ≡ length ys
same_lengths xs ys often = sym (length-map xs report_of) ∙ equally_long (reports xs) (reports ys) often ∙ length-map ys report_of

told_alike_rows : (e : ℕ) (rs qs : List Record) → EquallyOften (reports (outer_rows e rs)) (reports (outer_rows e qs)) → TellAlike (reveal_of e rs) (reveal_of e qs)
unfolding reveal_of levels_told
told_alike_rows e rs qs often =
    let xs = outer_rows e rs in
    let ys = outer_rows e qs in
    let over : (g : OpenedGroup) → In g (in_order by_path (groups_told e xs level_count)) → In g (in_order by_path (groups_told e ys level_count)) =
    λ g i. in_in_order by_path g (groups_told e ys level_count) (told_over e xs ys often level_count g (from_in_order by_path g (groups_told e xs level_count) i)) in
    let back : (g : OpenedGroup) → In g (in_order by_path (groups_told e ys level_count)) → In g (in_order by_path (groups_told e xs level_count)) =
    λ g i. in_in_order by_path g (groups_told e xs level_count) (told_over e ys xs (turned_often (reports xs) (reports ys) often) level_count g (from_in_order by_path g (groups_told e ys level_count) i)) in
    record {
      rows = same_lengths xs ys often;
      groups = same_rising by_path path_total (reveal_of e rs).groups (reveal_of e qs).groups (groups_rise e rs) (groups_rise e qs) over back;
      levels = λ i. joined_below (λ l. counts-alike (rows_from e xs l) (rows_from e ys l) (rows_from-alike e xs ys often l) e l i) level_count;
    }

-- a frame of level 0 as a report
abbrev first_report : Fields → Report
first_report frame = record { parent = no_parent; frame = frame }

first_reports_from : (e i : ℕ) (records : List Record) → reports (some_of (numbered_from i (λ i r. row_of i (first_frame e r)) records)) ≡ map first_report (first_frames e records)
first_reports_from e i [] = refl
first_reports_from e i (r ∷ records) =
    let rest = first_reports_from e (i + 1) records in
    elim (first_frame e r) as (λ o. reports (cons_option (row_of i o) (some_of (numbered_from (i + 1) (λ i r. row_of i (first_frame e r)) records))) ≡ map first_report (cons_option (frame_in o) (first_frames e records))) [
      | Ok frame ↦ ap (λ l. first_report frame ∷ l) rest
      | Err why ↦ rest
    ]

first_reports : (e : ℕ) (records : List Record) → reports (outer_rows e records) ≡ map first_report (first_frames e records)
unfolding outer_rows
first_reports e records = first_reports_from e 0 records

-- the rows of level 0 stand equally often where their frames do
pub outer_rows-alike : (e : ℕ) (rs qs : List Record) → EquallyOften (first_frames e rs) (first_frames e qs) → EquallyOften (reports (outer_rows e rs)) (reports (outer_rows e qs))
outer_rows-alike e rs qs often p =
    ap (λ l. length (filter p l)) (first_reports e rs)
    ∙ length-filter-map p first_report (first_frames e rs)
    ∙ often (λ r. p (first_report r))
    ∙ sym (length-filter-map p first_report (first_frames e qs))
    ∙ ap (λ l. length (filter p l)) (sym (first_reports e qs))

-- records with the same frames of level 0, each equally often
pub tell_alike : (e : ℕ) (rs qs : List Record) → EquallyOften (first_frames e rs) (first_frames e qs) → TellAlike (reveal_of e rs) (reveal_of e qs)
tell_alike e rs qs often = told_alike_rows e rs qs (outer_rows-alike e rs qs often)
