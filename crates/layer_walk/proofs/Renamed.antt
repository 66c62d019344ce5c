-- The walk doesn't look at the numbers of records: rows that are numbered otherwise give the same, numbered so.
use Rattle.std.proofs.Common.{◌≡◌, ℕ, zero, suc, List, [], ◌∷◌, Option, Some, refl, ap, ◌∙◌, map, length}
use Rattle.std.specs.List.{filter_map}
use Rattle.std.specs.Option.{option_map}
use Rattle.std.proofs.lemmas.List.{length-map, map-id}
use Rattle.std.proofs.lemmas.Simd.{map-map}
use Rattle.report_frame.specs.View.{head_of}
use Rattle.star_lists.specs.Numbered.{joined_below}
use Rattle.star_lists.proofs.Mapped.{filter-map, filter_map-map, first_ones-map}
use Rattle.star_lists.proofs.Numbered.{joined_map}
use Rattle.tag_groups.specs.Left.{point_of, points_left_of}
use Rattle.layer_walk.specs.declared.outcome.Outcome.{Outcome}
use Rattle.layer_walk.specs.declared.outcome.Outcome.TheVariants.{Opened, Few, NoLine, BadValue}
use Rattle.layer_walk.specs.declared.revealed.OpenedGroup.{OpenedGroup}
use Rattle.layer_walk.specs.Rows.{Row, same_group, members, first_members, points_left}
use Rattle.layer_walk.specs.Outcomes.{outcome_of, outcome_at}
use Rattle.layer_walk.specs.Members.{Next, next_at}
use Rattle.layer_walk.specs.Members.Next.{Refused, Last, Inner}
use Rattle.layer_walk.specs.Bodies.{refusal_in, extra_bytes, aux_in}
use Rattle.layer_walk.specs.Levels.{path_with, where_opened, stepped, next_row, next_rows, rows_from, refusals_at, aux_at, opened_row, opened_at, counts_of, counts_at}
use Rattle.layer_walk.specs.Reveal.{groups_told, refusals_told, aux_told, levels_told}
use Rattle.layer_walk.proofs.Renumbered.{renamed, renamed_refusal, renamed_aux}

module _ (f : ℕ → ℕ) where
  members-renamed : (rows : List Row) (row : Row) → members (map (renamed f) rows) (renamed f row) ≡ map (renamed f) (members rows row)
  members-renamed rows row = filter-map (same_group (renamed f row)) (same_group row) (renamed f) (λ x. refl) rows

  points-renamed : (rows : List Row) (row : Row) → points_left (map (renamed f) rows) (renamed f row) ≡ points_left rows row
  points-renamed rows row =
      ap (λ group. points_left_of (map (λ (r : Row). point_of r.frame) group)) (members-renamed rows row)
      ∙ ap points_left_of (map-map (λ (r : Row). point_of r.frame) (renamed f) (members rows row))

  outcome-renamed : (e l : ℕ) (rows : List Row) (row : Row) → outcome_at e l (map (renamed f) rows) (renamed f row) ≡ outcome_at e l rows row
  unfolding outcome_at
  outcome-renamed e l rows row = ap (outcome_of e l row.parent.check (head_of row.frame)) (points-renamed rows row)

  where_opened-map : {X Y : Type 0} (h : X → Y) (p : List ℕ → ℕ → Option Y) (q : List ℕ → ℕ → Option X) → ((value : List ℕ) (agree : ℕ) → p value agree ≡ option_map h (q value agree)) → (o : Outcome) → where_opened p o ≡ option_map h (where_opened q o)
  where_opened-map h p q e (Opened value agree) = e value agree
  where_opened-map h p q e Few = refl
  where_opened-map h p q e NoLine = refl
  where_opened-map h p q e BadValue = refl

  -- what each row gives where its group is opened, if what it gives for a value is numbered otherwise and no more
  module _ {X : Type 0} (g : X → X) (h : Row → List ℕ → ℕ → Option X) (moves : (row : Row) (value : List ℕ) (agree : ℕ) → h (renamed f row) value agree ≡ option_map g (h row value agree)) where
    given-renamed : (e l : ℕ) (rows : List Row) (row : Row) →
        where_opened (h (renamed f row)) (outcome_at e l (map (renamed f) rows) (renamed f row)) ≡ option_map g (where_opened (h row) (outcome_at e l rows row))
    given-renamed e l rows row =
        ap (where_opened (h (renamed f row))) (outcome-renamed e l rows row)
        ∙ where_opened-map g (h (renamed f row)) (h row) (moves row) (outcome_at e l rows row)

    all_given-renamed : (e l : ℕ) (rows : List Row) →
        filter_map (λ row. where_opened (h row) (outcome_at e l (map (renamed f) rows) row)) (map (renamed f) rows) ≡ map g (filter_map (λ row. where_opened (h row) (outcome_at e l rows row)) rows)
    all_given-renamed e l rows =
        filter_map-map (λ row. where_opened (h row) (outcome_at e l (map (renamed f) rows) row)) (λ row. where_opened (h row) (outcome_at e l rows row)) (renamed f) g (given-renamed e l rows) rows

  -- ---- the rows of each level

  stepped-renamed : (row : Row) (value : List ℕ) (n : Next) → stepped (renamed f row) value n ≡ option_map (renamed f) (stepped row value n)
  stepped-renamed row value (Refused why) = refl
  stepped-renamed row value (Last extra) = refl
  stepped-renamed row value (Inner frame) = refl

  pub rows_from-renamed : (e : ℕ) (rows : List Row) (l : ℕ) → rows_from e (map (renamed f) rows) l ≡ map (renamed f) (rows_from e rows l)
  unfolding rows_from next_rows
  rows_from-renamed e rows zero = refl
  rows_from-renamed e rows (suc l) =
      ap (λ rs. filter_map (next_row e l rs) rs) (rows_from-renamed e rows l)
      ∙ all_given-renamed (renamed f) (λ row value agree. stepped row value (next_at e l row value)) (λ row value agree. stepped-renamed row value (next_at e l row value)) e l (rows_from e rows l)

  -- ---- what each level tells

  told : (rows : List Row) (row : Row) → List ℕ → ℕ → OpenedGroup
  told rows row value agree = record { path = path_with row value; points = length (points_left rows row); agree = agree; members = length (members rows row) }

  told-renamed : (rows : List Row) (row : Row) (value : List ℕ) (agree : ℕ) → told (map (renamed f) rows) (renamed f row) value agree ≡ told rows row value agree
  unfolding told
  told-renamed rows row value agree =
      let p = points-renamed rows row in
      let m : length (members (map (renamed f) rows) (renamed f row)) ≡ length (members rows row) = ap length (members-renamed rows row) ∙ length-map (members rows row) (renamed f) in
      λ i. record { path = path_with row value; points = length (p i); agree = agree; members = m i }

  opened_row-renamed : (e l : ℕ) (rows : List Row) (row : Row) → opened_row e l (map (renamed f) rows) (renamed f row) ≡ option_map (λ (g : OpenedGroup). g) (opened_row e l rows row)
  unfolding told
  opened_row-renamed e l rows row =
      ap (where_opened (λ value agree. Some (told (map (renamed f) rows) (renamed f row) value agree))) (outcome-renamed e l rows row)
      ∙ where_opened-map (λ (g : OpenedGroup). g)
      (λ value agree. Some (told (map (renamed f) rows) (renamed f row) value agree)) (λ value agree. Some (told rows row value agree))
      (λ value agree. ap Some (told-renamed rows row value agree)) (outcome_at e l rows row)

  opened_at-renamed : (e l : ℕ) (rows : List Row) → opened_at e l (map (renamed f) rows) ≡ opened_at e l rows
  unfolding opened_at
  opened_at-renamed e l rows =
      ap (filter_map (opened_row e l (map (renamed f) rows))) (first_ones-map same_group same_group (renamed f) (λ a b. refl) rows)
      ∙ filter_map-map (opened_row e l (map (renamed f) rows)) (opened_row e l rows) (renamed f) (λ g. g) (opened_row-renamed e l rows) (first_members rows)
      ∙ map-id (filter_map (opened_row e l rows) (first_members rows))

  counts_at-renamed : (e l : ℕ) (rows : List Row) → counts_at e l (map (renamed f) rows) ≡ counts_at e l rows
  unfolding counts_at
  counts_at-renamed e l rows =
      ap counts_of (ap (map (outcome_at e l (map (renamed f) rows))) (first_ones-map same_group same_group (renamed f) (λ a b. refl) rows)
      ∙ map-map (outcome_at e l (map (renamed f) rows)) (renamed f) (first_members rows) ∙ (λ i. map (λ r. outcome-renamed e l rows r i) (first_members rows)))

  refused-renamed : (l i : ℕ) (n : Next) → refusal_in l (f i) n ≡ option_map (renamed_refusal f) (refusal_in l i n)
  refused-renamed l i (Refused why) = refl
  refused-renamed l i (Last extra) = refl
  refused-renamed l i (Inner frame) = refl

  refusals_at-renamed : (e l : ℕ) (rows : List Row) → refusals_at e l (map (renamed f) rows) ≡ map (renamed_refusal f) (refusals_at e l rows)
  unfolding refusals_at
  refusals_at-renamed e l rows =
      all_given-renamed (renamed_refusal f) (λ row value agree. refusal_in l row.index (next_at e l row value)) (λ row value agree. refused-renamed l row.index (next_at e l row value)) e l rows

  extra-renamed : (l i : ℕ) (bytes : List ℕ) → extra_bytes l (f i) bytes ≡ option_map (renamed_aux f) (extra_bytes l i bytes)
  extra-renamed l i [] = refl
  extra-renamed l i (byte ∷ bytes) = refl

  aux-renamed : (l i : ℕ) (n : Next) → aux_in l (f i) n ≡ option_map (renamed_aux f) (aux_in l i n)
  aux-renamed l i (Refused why) = refl
  aux-renamed l i (Last extra) = extra-renamed l i extra
  aux-renamed l i (Inner frame) = refl

  aux_at-renamed : (e l : ℕ) (rows : List Row) → aux_at e l (map (renamed f) rows) ≡ map (renamed_aux f) (aux_at e l rows)
  unfolding aux_at
  aux_at-renamed e l rows =
      all_given-renamed (renamed_aux f) (λ row value agree. aux_in l row.index (next_at e l row value)) (λ row value agree. aux-renamed l row.index (next_at e l row value)) e l rows

  -- ---- of all levels

  pub groups_told-renamed : (e : ℕ) (rows : List Row) (n : ℕ) → groups_told e (map (renamed f) rows) n ≡ groups_told e rows n
  unfolding groups_told
  groups_told-renamed e rows n =
      λ i. joined_below (λ l. (ap (opened_at e l) (rows_from-renamed e rows l) ∙ opened_at-renamed e l (rows_from e rows l)) i) n

  pub levels_told-renamed : (e : ℕ) (rows : List Row) (n : ℕ) → levels_told e (map (renamed f) rows) n ≡ levels_told e rows n
  unfolding levels_told
  levels_told-renamed e rows n =
      λ i. joined_below (λ l. (ap (counts_at e l) (rows_from-renamed e rows l) ∙ counts_at-renamed e l (rows_from e rows l)) i) n

  pub refusals_told-renamed : (e : ℕ) (rows : List Row) (n : ℕ) → refusals_told e (map (renamed f) rows) n ≡ map (renamed_refusal f) (refusals_told e rows n)
  unfolding refusals_told
  refusals_told-renamed e rows n =
      joined_map (renamed_refusal f) (λ l. refusals_at e l (rows_from e (map (renamed f) rows) l)) (λ l. refusals_at e l (rows_from e rows l))
      (λ l. ap (refusals_at e l) (rows_from-renamed e rows l) ∙ refusals_at-renamed e l (rows_from e rows l)) n

  pub aux_told-renamed : (e : ℕ) (rows : List Row) (n : ℕ) → aux_told e (map (renamed f) rows) n ≡ map (renamed_aux f) (aux_told e rows n)
  unfolding aux_told
  aux_told-renamed e rows n =
      joined_map (renamed_aux f) (λ l. aux_at e l (rows_from e (map (renamed f) rows) l)) (λ l. aux_at e l (rows_from e rows l))
      (λ l. ap (aux_at e l) (rows_from-renamed e rows l) ∙ aux_at-renamed e l (rows_from e rows l)) n
