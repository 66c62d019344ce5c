-- How often each refusal and each extra bytes come does not hang on the order of the records.
use Rattle.std.proofs.Common.{◌≡◌, ℕ, ◌+◌, List, [], ◌∷◌, ◌++◌, Option, Some, None, Result, Ok, Err, refl, sym, ap, ◌∙◌, map, filter, length}
use Rattle.std.specs.List.{cons_option, filter_map}
use Rattle.std.specs.Option.{option_map}
use Rattle.std.proofs.lemmas.List.{map-append}
use Rattle.report_frame.specs.Frame.{Fields}
use Rattle.star_io.specs.declared.record.Record.{Record}
use Rattle.star_lists.specs.Numbered.{numbered_from}
use Rattle.star_lists.specs.Elements.{EquallyOften}
use Rattle.star_lists.proofs.Counted.{often_filter_map, often_append, often_below, ordered_often}
use Rattle.star_lists.proofs.Mapped.{filter_map-map}
use Rattle.layer_walk.specs.declared.outcome.Outcome.{Outcome}
use Rattle.layer_walk.specs.declared.outcome.Outcome.TheVariants.{Opened, Few, NoLine, BadValue}
use Rattle.layer_walk.specs.declared.refusal.Stage.TheVariants.{Outer}
use Rattle.layer_walk.specs.declared.refusal.Why.{Why}
use Rattle.layer_walk.specs.Bodies.{refusal_in, aux_in}
use Rattle.layer_walk.specs.Rows.{Row}
use Rattle.layer_walk.specs.Outcomes.{outcome_at}
use Rattle.layer_walk.specs.Members.{Next, next_at}
use Rattle.layer_walk.specs.Members.Next.{Refused, Last, Inner}
use Rattle.layer_walk.specs.Levels.{where_opened, rows_from, refusals_at, aux_at}
use Rattle.layer_walk.specs.Reveal.{by_index, by_aux_index, first_frame, level_count, outer_of, outer_refusals, outer_rows, refusals_told, aux_told, reveal_of, some_of}
use Rattle.layer_walk.specs.Laws.{ExtrasAlike, Reason, RefuseAlike, Report, extra_of, first_frames, frame_in, reason_of, report_of, reports}
use Rattle.layer_walk.proofs.Alike.{outcome-alike, row_with, rows_from-alike}
use Rattle.layer_walk.proofs.AlikeReveal.{outer_rows-alike}
use Rattle.layer_walk.proofs.Orders.{index_total, aux_index_total}

-- ---- what a level tells of rows, without their numbers

module _ {X Y : Type 0} (t : X → Y) (tell : ℕ → Row → Next → Option X) (free : (l : ℕ) (row : Row) (next : Next) → option_map t (tell l (row_with (report_of row)) next) ≡ option_map t (tell l row next)) where
  -- what is told of a row, where its group is opened
  abbrev told_row : ℕ → ℕ → List Row → Row → Option X
  told_row e l rows row = where_opened (λ value agree. tell l row (next_at e l row value)) (outcome_at e l rows row)

  number_free : (e l : ℕ) (rows : List Row) (row : Row) → option_map t (told_row e l rows (row_with (report_of row))) ≡ option_map t (told_row e l rows row)
  unfolding outcome_at
  number_free e l rows row = under (outcome_at e l rows row)
    where
      under : (o : Outcome) → option_map t (where_opened (λ value agree. tell l (row_with (report_of row)) (next_at e l (row_with (report_of row)) value)) o) ≡ option_map t (where_opened (λ value agree. tell l row (next_at e l row value)) o)
      under (Opened value agree) = free l row (next_at e l row value)
      under Few = refl
      under NoLine = refl
      under BadValue = refl

  abbrev told_report : ℕ → ℕ → List Row → Report → Option Y
  told_report e l rows r = option_map t (told_row e l rows (row_with r))

  told_reports : (e l : ℕ) (rows : List Row) → map t (filter_map (told_row e l rows) rows) ≡ filter_map (told_report e l rows) (reports rows)
  told_reports e l rows = sym (filter_map-map (told_report e l rows) (told_row e l rows) report_of t (number_free e l rows) rows)

  told-alike : (e l : ℕ) (xs ys : List Row) → EquallyOften (reports xs) (reports ys) → EquallyOften (map t (filter_map (told_row e l xs) xs)) (map t (filter_map (told_row e l ys) ys))
  told-alike e l xs ys often p =
      let agree : (r : Report) → told_report e l xs r ≡ told_report e l ys r = λ r. ap (λ o. option_map t (where_opened (λ value agree. tell l (row_with r) (next_at e l (row_with r) value)) o)) (outcome-alike xs ys often e l (row_with r)) in
      ap (λ rs. length (filter p rs)) (told_reports e l xs)
      ∙ often_filter_map (told_report e l xs) (reports xs) (reports ys) often p
      ∙ ap (λ rs. length (filter p rs)) ((λ i. filter_map (λ r. agree r i) (reports ys)) ∙ sym (told_reports e l ys))

-- ---- the refusals of levels

reason_free : (l : ℕ) (row : Row) (next : Next) → option_map reason_of (refusal_in l (row_with (report_of row)).index next) ≡ option_map reason_of (refusal_in l row.index next)
reason_free l row (Refused why) = refl
reason_free l row (Last extra) = refl
reason_free l row (Inner frame) = refl

refusals-alike : (e : ℕ) (xs ys : List Row) → EquallyOften (reports xs) (reports ys) → (n : ℕ) → EquallyOften (map reason_of (refusals_told e xs n)) (map reason_of (refusals_told e ys n))
unfolding refusals_told refusals_at
refusals-alike e xs ys often n =
    often_below reason_of (λ l. refusals_at e l (rows_from e xs l)) (λ l. refusals_at e l (rows_from e ys l))
    (λ l. told-alike reason_of (λ l row next. refusal_in l row.index next) reason_free e l (rows_from e xs l) (rows_from e ys l) (rows_from-alike e xs ys often l)) n

-- ---- extra bytes

extra_free : (l : ℕ) (row : Row) (next : Next) → option_map extra_of (aux_in l (row_with (report_of row)).index next) ≡ option_map extra_of (aux_in l row.index next)
extra_free l row (Refused why) = refl
extra_free l row (Last []) = refl
extra_free l row (Last (byte ∷ bytes)) = refl
extra_free l row (Inner frame) = refl

aux-alike : (e : ℕ) (xs ys : List Row) → EquallyOften (reports xs) (reports ys) → (n : ℕ) → EquallyOften (map extra_of (aux_told e xs n)) (map extra_of (aux_told e ys n))
unfolding aux_told aux_at
aux-alike e xs ys often n =
    often_below extra_of (λ l. aux_at e l (rows_from e xs l)) (λ l. aux_at e l (rows_from e ys l))
    (λ l. told-alike extra_of (λ l row next. aux_in l row.index next) extra_free e l (rows_from e xs l) (rows_from e ys l) (rows_from-alike e xs ys often l)) n

-- ---- the refusals of records

-- why a record is refused as such
abbrev outer_reason : Result Fields Why → Option Reason
outer_reason (Ok frame) = None
outer_reason (Err why) = Some (record { stage = Outer; why = why })

outer_reasons_from : (e i : ℕ) (records : List Record) → map reason_of (some_of (numbered_from i (λ i r. outer_of i (first_frame e r)) records)) ≡ filter_map (λ r. outer_reason (first_frame e r)) records
outer_reasons_from e i [] = refl
outer_reasons_from e i (r ∷ records) =
    let rest = outer_reasons_from e (i + 1) records in
    elim (first_frame e r) as (λ o. map reason_of (cons_option (outer_of i o) (some_of (numbered_from (i + 1) (λ i r. outer_of i (first_frame e r)) records))) ≡ cons_option (outer_reason o) (filter_map (λ r. outer_reason (first_frame e r)) records)) [
      | Ok frame ↦ rest
      | Err why ↦ ap (λ l. record { stage = Outer; why = why } ∷ l) rest
    ]

outer_refusals-alike : (e : ℕ) (rs qs : List Record) → EquallyOften rs qs → EquallyOften (map reason_of (outer_refusals e rs)) (map reason_of (outer_refusals e qs))
unfolding outer_refusals
outer_refusals-alike e rs qs often p =
    ap (λ l. length (filter p l)) (outer_reasons_from e 0 rs)
    ∙ often_filter_map (λ r. outer_reason (first_frame e r)) rs qs often p
    ∙ sym (ap (λ l. length (filter p l)) (outer_reasons_from e 0 qs))

-- ---- reveals

-- the same records have the same frames, each equally often
pub frames_alike : (e : ℕ) (rs qs : List Record) → EquallyOften rs qs → EquallyOften (first_frames e rs) (first_frames e qs)
frames_alike e rs qs often = often_filter_map (λ r. frame_in (first_frame e r)) rs qs often

-- the same extra bytes, each equally often
pub extras_alike : (e : ℕ) (rs qs : List Record) → EquallyOften (first_frames e rs) (first_frames e qs) → ExtrasAlike (reveal_of e rs) (reveal_of e qs)
unfolding reveal_of
extras_alike e rs qs often =
    ordered_often by_aux_index aux_index_total extra_of (aux_told e (outer_rows e rs) level_count) (aux_told e (outer_rows e qs) level_count)
    (aux-alike e (outer_rows e rs) (outer_rows e qs) (outer_rows-alike e rs qs often) level_count)

-- the same reasons of refusals, each equally often
pub refuse_alike : (e : ℕ) (rs qs : List Record) → EquallyOften rs qs → RefuseAlike (reveal_of e rs) (reveal_of e qs)
unfolding reveal_of
refuse_alike e rs qs often =
    let xs = outer_rows e rs in
    let ys = outer_rows e qs in
    let levels = refusals-alike e xs ys (outer_rows-alike e rs qs (frames_alike e rs qs often)) level_count in
    let both : EquallyOften (map reason_of (outer_refusals e rs ++ refusals_told e xs level_count)) (map reason_of (outer_refusals e qs ++ refusals_told e ys level_count)) = λ p.
    ap (λ l. length (filter p l)) (map-append reason_of (outer_refusals e rs) (refusals_told e xs level_count))
    ∙ often_append (map reason_of (outer_refusals e rs)) (map reason_of (refusals_told e xs level_count)) (map reason_of (outer_refusals e qs)) (map reason_of (refusals_told e ys level_count)) (outer_refusals-alike e rs qs often) levels p
    ∙ ap (λ l. length (filter p l)) (sym (map-append reason_of (outer_refusals e qs) (refusals_told e ys level_count))) in
    ordered_often by_index index_total reason_of (outer_refusals e rs ++ refusals_told e xs level_count) (outer_refusals e qs ++ refusals_told e ys level_count) both
