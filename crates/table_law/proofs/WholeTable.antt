-- A clear table reveals its prefixes, and nothing else.
use Rattle.std.proofs.Common.{◌≡◌, ◌≢◌, ℕ, zero, suc, ◌+◌, ◌-◌, ◌^◌, ◌<◌, ◌≤◌, Bool, true, false, ◌&&◌, List, [], ◌∷◌, ◌++◌, inl, inr, Some, None, refl, sym, ap, ◌∙◌, subst, map, filter, length, get_or, slice_index, arith, All}
use Rattle.std.specs.Prelude.{if◌then◌else◌, nat_le}
use Rattle.std.specs.List.Sorted.{IsStrictlySortedBy}
use Rattle.std.specs.Cmp.{first_so, second_so}
use Rattle.std.proofs.lemmas.Bool.{cases_lt, and_from}
use Rattle.std.proofs.lemmas.List.Elements.{All-append, All-cons, All-nil}
use Rattle.std.proofs.lemmas.List.FromFn.{get_or-map-range_with_len, length-map-range_with_len}
use Rattle.report_frame.specs.Thresholds.{AreThresholds}
use Rattle.report_frame.specs.declared.version.Version.TheVariants.{One}
use Rattle.nest_client.specs.Report.{layer}
use Rattle.star_io.specs.RecordLists.{AreShort, stream_of, stream_records}
use Rattle.star_io.specs.declared.record.TheConstants.{MAX_RECORD_BYTES}
use Rattle.star_io.proofs.RecordListLaws.{only_records, are_stream}
use Rattle.report_frame.specs.declared.limits.TheConstants.{MAX_FRAME_ONE}
use Rattle.nest_client.specs.Stream.{row_frame, table_frames, table_records}
use Rattle.star_lists.specs.FirstOnes.{first_ones}
use Rattle.star_lists.specs.Ascending.{in_order}
use Rattle.star_lists.specs.Numbered.{joined_below}
use Rattle.star_lists.proofs.Elements.{In, from_filter, in_filter, filter_whole}
use Rattle.star_lists.proofs.FirstOnes.{in_firsts}
use Rattle.star_lists.proofs.Rising.{same_rising}
use Rattle.star_lists.proofs.Inside.{pairwise_append, from_filter_map, firsts_differ, from_in_order, in_in_order, in_map, from_map, in_filter_map, first_one_for, pairwise_filter, pairwise_map}
use Rattle.star_lists.proofs.InOrder.{rising_in_order}
use Rattle.star_lists.proofs.Mapped.{none_made, none_kept}
use Rattle.star_lists.proofs.Numbered.{from_joined, in_joined, nothing_joined}
use Rattle.layer_walk.specs.declared.outcome.Outcome.{Outcome}
use Rattle.layer_walk.specs.declared.outcome.Outcome.TheVariants.{Opened, Few}
use Rattle.layer_walk.specs.declared.revealed.OpenedGroup.{OpenedGroup}
use Rattle.layer_walk.specs.Rows.{Row, same_group, members, first_members, points_left}
use Rattle.layer_walk.specs.Outcomes.{outcome_at}
use Rattle.layer_walk.specs.Members.{next_at}
use Rattle.layer_walk.specs.Bodies.{refusal_in}
use Rattle.layer_walk.specs.Levels.{where_opened, path_with, next_rows, rows_from, refused_row, refusals_at, opened_row, opened_at, is_no_line, is_bad_value, counts_of, counts_at}
use Rattle.layer_walk.specs.Reveal.{outer_rows, by_path, by_index, level_count, groups_told, refusals_told, levels_told, reveal_of}
use Rattle.layer_walk.proofs.WholePaths.{PathsApart}
use Rattle.layer_walk.proofs.Same.{itself, joins}
use Rattle.layer_walk.proofs.AlikeReveal.{same_opened}
use Rattle.layer_walk.proofs.WholeReveal.{groups_rise, paths_untied}
use Rattle.layer_walk.proofs.Orders.{path_total}
use Rattle.table_law.specs.Prefixes.{Values, value_at, same_front, how_many, is_open, path_to, entry, prefixes_of, prefixes}
use Rattle.table_law.specs.Layers.{layer_report}
use Rattle.table_law.specs.Clear.{Clear}
use Rattle.table_law.specs.Reveals.{IsTableOf, IsClean, RevealsOnly}
use Rattle.table_law.proofs.FrontLaws.{front_itself, front_joins, open_same, path_apart, length-path_to, entry_same}
use Rattle.table_law.proofs.Placed.{Placed, placed, placed_rows, level_row, outer_placed, no_outer_refusals, own_frame}
use Rattle.table_law.proofs.OneLevel.{points_counted, members_counted, outcome_is, next_inner, next_last, next_rows_are, no_rows_after}

module _ (e : ℕ) (seed ks : List ℕ) (table : List Values) (low : e < 2 ^ 32) (t : AreThresholds One ks) (good : IsTableOf ks table) (clear : Clear table ks e seed) where
  -- the rows of level 0
  abbrev start : List Row
  start = map (level_row e seed ks 0) (placed table)

  -- the rows of each level
  rows_at : (l : ℕ) → l < length ks → rows_from e start l ≡ map (level_row e seed ks l) (filter (λ (p : Placed). is_open table ks l p.row) (placed table))
  unfolding rows_from is_open
  rows_at zero within = sym (ap (map (level_row e seed ks 0)) (filter_whole (λ (p : Placed). true) (placed table) (λ p i. refl)))
  rows_at (suc l) within =
      ap (next_rows e l) (rows_at l (omega arith)) ∙ next_rows_are e seed ks table low t good clear l (omega arith) within

  rows_end : (d : ℕ) → rows_from e start (d + length ks) ≡ []
  unfolding rows_from next_rows
  rows_end zero =
      let some : 1 ≤ length ks = t.some in
      ends (length ks) refl some
    where
      ends : (n : ℕ) → n ≡ length ks → 1 ≤ n → rows_from e start (zero + length ks) ≡ []
      ends zero is some = absurd (omega arith)
      ends (suc l) is some =
          ap (rows_from e start) {x = zero + length ks} {y = suc l} (omega arith)
          ∙ ap (next_rows e l) (rows_at l (omega arith)) ∙ no_rows_after e seed ks table low t good clear l (omega arith) is
  rows_end (suc d) =
      ap (rows_from e start) {x = suc d + length ks} {y = suc (d + length ks)} (omega arith) ∙ ap (next_rows e (d + length ks)) (rows_end d)

  rows_past : (l : ℕ) → length ks ≤ l → rows_from e start l ≡ []
  rows_past l past =
      let d : ℕ = l - length ks in
      ap (rows_from e start) {x = l} {y = d + length ks} (omega arith) ∙ rows_end d

  module _ (l : ℕ) (within : l < length ks) where
    abbrev rows : List Row
    rows = map (level_row e seed ks l) (filter (λ (p : Placed). is_open table ks l p.row) (placed table))

    -- a row's group as it is revealed
    told_is : (p : Placed) → In p (placed table) → is_open table ks l p.row ≡ true → opened_row e l rows (level_row e seed ks l p) ≡ (if nat_le (slice_index ks l) (how_many table (suc l) p.row) then Some (entry table ks (suc l) p.row) else None)
    unfolding path_to layer_report layer
    told_is p i free =
        let row = level_row e seed ks l p in
        let n = how_many table (suc l) p.row in
        let points : length (points_left rows row) ≡ n = points_counted e seed ks table low t good clear l within p i free in
        let count : length (members rows row) ≡ n = members_counted e seed ks table low t good clear l within p i free in
        (λ j. where_opened (λ value agree. Some (record { path = path_with row value; points = points j; agree = agree; members = count j })) (outcome_is e seed ks table low t good clear l within p i free j))
        ∙ elim (nat_le (slice_index ks l) n) as (λ b. where_opened (λ value agree. Some (record { path = path_with row value; points = n; agree = agree; members = n })) (if b then Opened (value_at p.row l) n else Few) ≡ (if b then Some (entry table ks (suc l) p.row) else None)) [
          | true ↦ refl
          | false ↦ refl
        ]

    told_over : (g : OpenedGroup) → In g (opened_at e l rows) → In g (prefixes_of table ks (suc l))
    unfolding opened_at prefixes_of is_open
    told_over g i =
        let f = from_filter_map (opened_row e l rows) (first_members rows) g i in
        let m = from_map (level_row e seed ks l) f.0 (filter (λ (p : Placed). is_open table ks l p.row) (placed table)) (in_firsts same_group rows f.0 f.1) in
        let p = m.0 in
        let k = from_filter (λ (p : Placed). is_open table ks l p.row) (placed table) p m.1 in
        let is : opened_row e l rows (level_row e seed ks l p) ≡ Some g = ap (opened_row e l rows) m.2 ∙ f.2 in
        let inside : In p.row table = subst (In p.row) (placed_rows table) (in_map (λ (p : Placed). p.row) p (placed table) k.0) in
        elim (nat_le (slice_index ks l) (how_many table (suc l) p.row)) as (λ b. nat_le (slice_index ks l) (how_many table (suc l) p.row) ≡ b → (if b then Some (entry table ks (suc l) p.row) else None) ≡ Some g → In g (map (entry table ks (suc l)) (filter (is_open table ks (suc l)) (first_ones (same_front (suc l)) table)))) [
          | true ↦ λ enough h.
              let it : entry table ks (suc l) p.row ≡ g = cc in
              let w = first_one_for (same_front (suc l)) (front_itself (suc l)) (front_joins (suc l)) p.row table inside in
              let free : is_open table ks (suc l) w.0 ≡ true = open_same table ks (suc l) w.0 p.row w.2 ∙ and_from (is_open table ks l p.row) (nat_le (slice_index ks l) (how_many table (suc l) p.row)) k.1 enough in
              subst (λ g. In g (map (entry table ks (suc l)) (filter (is_open table ks (suc l)) (first_ones (same_front (suc l)) table)))) (entry_same table ks (suc l) w.0 p.row w.2 ∙ it)
              (in_map (entry table ks (suc l)) w.0 (filter (is_open table ks (suc l)) (first_ones (same_front (suc l)) table)) (in_filter (is_open table ks (suc l)) (first_ones (same_front (suc l)) table) w.0 w.1 free))
          | false ↦ λ few h. absurd (cc)
        ] refl (sym (told_is p k.0 k.1) ∙ is)

    told_back : (g : OpenedGroup) → In g (prefixes_of table ks (suc l)) → In g (opened_at e l rows)
    unfolding opened_at prefixes_of is_open
    told_back g i =
        let m = from_map (entry table ks (suc l)) g (filter (is_open table ks (suc l)) (first_ones (same_front (suc l)) table)) i in
        let k = from_filter (is_open table ks (suc l)) (first_ones (same_front (suc l)) table) m.0 m.1 in
        let inside : In m.0 table = in_firsts (same_front (suc l)) table m.0 k.0 in
        let q = from_map (λ (p : Placed). p.row) m.0 (placed table) (subst (In m.0) (sym (placed_rows table)) inside) in
        let p = q.0 in
        let both : (is_open table ks l p.row && nat_le (slice_index ks l) (how_many table (suc l) p.row)) ≡ true = ap (is_open table ks (suc l)) q.2 ∙ k.1 in
        let free : is_open table ks l p.row ≡ true = first_so (is_open table ks l p.row) _ both in
        let enough : nat_le (slice_index ks l) (how_many table (suc l) p.row) ≡ true = second_so (is_open table ks l p.row) _ both in
        let here : In (level_row e seed ks l p) rows = in_map (level_row e seed ks l) p (filter (λ (p : Placed). is_open table ks l p.row) (placed table)) (in_filter (λ (p : Placed). is_open table ks l p.row) (placed table) p q.1 free) in
        let b = first_one_for same_group itself joins (level_row e seed ks l p) rows here in
        in_filter_map (opened_row e l rows) (first_members rows) b.0 g b.1
        (same_opened e l rows b.0 (level_row e seed ks l p) b.2 ∙ told_is p q.1 free
        ∙ ap (λ b. if b then Some (entry table ks (suc l) p.row) else None) enough ∙ ap Some (ap (entry table ks (suc l)) q.2 ∙ m.2))

    -- nothing is refused
    none_refused : refusals_at e l rows ≡ []
    unfolding refusals_at
    none_refused =
        none_made (refused_row e l rows) rows (λ row i.
        let m = from_map (level_row e seed ks l) row (filter (λ (p : Placed). is_open table ks l p.row) (placed table)) i in
        let p = m.0 in
        let k = from_filter (λ (p : Placed). is_open table ks l p.row) (placed table) p m.1 in
        ap (refused_row e l rows) (sym m.2)
        ∙ ap (where_opened (λ value agree. refusal_in l p.index (next_at e l (level_row e seed ks l p) value))) (outcome_is e seed ks table low t good clear l within p k.0 k.1)
        ∙ elim (nat_le (slice_index ks l) (how_many table (suc l) p.row)) as (λ b. where_opened (λ value agree. refusal_in l p.index (next_at e l (level_row e seed ks l p) value)) (if b then Opened (value_at p.row l) (how_many table (suc l) p.row) else Few) ≡ None) [
          | true ↦ elim (cases_lt (suc l) (length ks)) [
            | inl more ↦ ap (refusal_in l p.index) (next_inner e seed ks table low t good clear l within p k.0 more)
            | inr last ↦ ap (refusal_in l p.index) (next_last e seed ks table low t good clear l within p k.0 (omega arith))
          ]
          | false ↦ refl
        ])

    -- no group is without a line or has a bad value
    outcome_clean : (test : Outcome → Bool) → ((value : List ℕ) (agree : ℕ) → test (Opened value agree) ≡ false) → test Few ≡ false → (o : Outcome) → In o (map (outcome_at e l rows) (first_members rows)) → test o ≡ false
    outcome_clean test opened few o i =
        let f = from_map (outcome_at e l rows) o (first_members rows) i in
        let m = from_map (level_row e seed ks l) f.0 (filter (λ (p : Placed). is_open table ks l p.row) (placed table)) (in_firsts same_group rows f.0 f.1) in
        let p = m.0 in
        let k = from_filter (λ (p : Placed). is_open table ks l p.row) (placed table) p m.1 in
        ap test (sym f.2 ∙ ap (outcome_at e l rows) (sym m.2) ∙ outcome_is e seed ks table low t good clear l within p k.0 k.1)
        ∙ elim (nat_le (slice_index ks l) (how_many table (suc l) p.row)) as (λ b. test (if b then Opened (value_at p.row l) (how_many table (suc l) p.row) else Few) ≡ false) [
          | true ↦ opened (value_at p.row l) (how_many table (suc l) p.row)
          | false ↦ few
        ]

    counts_clean : All IsClean (counts_at e l rows)
    unfolding counts_at
    counts_clean =
        clean_of (map (outcome_at e l rows) (first_members rows)) (outcome_clean is_no_line (λ v a. refl) refl) (outcome_clean is_bad_value (λ v a. refl) refl)
      where
        clean_of : (os : List Outcome) → ((o : Outcome) → In o os → is_no_line o ≡ false) → ((o : Outcome) → In o os → is_bad_value o ≡ false) → All IsClean (counts_of os)
        clean_of [] h k = All-nil IsClean
        clean_of (o ∷ os) h k = All-cons IsClean _ [] (ap length (none_kept is_no_line (o ∷ os) h), ap length (none_kept is_bad_value (o ∷ os) k)) (All-nil IsClean)

  -- ---- the prefixes have different paths

  prefixes_apart : (n : ℕ) → PathsApart (prefixes_of table ks n)
  unfolding prefixes_of
  prefixes_apart n =
      pairwise_map (λ a b. same_front n a b ≡ false) (λ (g h : OpenedGroup). g.path ≢ h.path) (entry table ks n) (filter (is_open table ks n) (first_ones (same_front n) table))
      (λ a b i j apart same. let no : true ≡ false = sym (path_apart ks n a b same) ∙ apart in cc)
      (pairwise_filter (λ a b. same_front n a b ≡ false) (is_open table ks n) (first_ones (same_front n) table) (firsts_differ (same_front n) table))

  prefix_long : (n : ℕ) (g : OpenedGroup) → In g (prefixes_of table ks n) → length g.path ≡ n
  unfolding prefixes_of
  prefix_long n g i =
      let m = from_map (entry table ks n) g (filter (is_open table ks n) (first_ones (same_front n) table)) i in
      ap (λ (g : OpenedGroup). length g.path) (sym m.2) ∙ length-path_to ks n m.0

  joined_apart : (n : ℕ) → PathsApart (joined_below (λ l. prefixes_of table ks (suc l)) n)
  joined_apart zero = tt
  joined_apart (suc n) =
      pairwise_append (λ (g h : OpenedGroup). g.path ≢ h.path) (joined_below (λ l. prefixes_of table ks (suc l)) n) (prefixes_of table ks (suc n)) (joined_apart n) (prefixes_apart (suc n))
      (λ g h i j same.
      let o = from_joined (λ l. prefixes_of table ks (suc l)) n g i in
      let short : length g.path ≡ suc o.0 = prefix_long (suc o.0) g o.2 in
      let long : length h.path ≡ suc n = prefix_long (suc n) h j in
      let less : o.0 < n = o.1 in
      let both : length g.path ≡ length h.path = ap length same in
      omega arith)

  pub prefixes_rise : IsStrictlySortedBy by_path (prefixes table ks)
  unfolding prefixes
  prefixes_rise = rising_in_order by_path path_total _ (paths_untied _ (joined_apart (length ks)))

  -- ---- all levels

  groups_over : (g : OpenedGroup) → In g (groups_told e start level_count) → In g (joined_below (λ l. prefixes_of table ks (suc l)) (length ks))
  unfolding groups_told opened_at
  groups_over g i =
      let o = from_joined (λ l. opened_at e l (rows_from e start l)) level_count g i in
      elim (cases_lt o.0 (length ks)) [
        | inl within ↦ in_joined (λ l. prefixes_of table ks (suc l)) (length ks) o.0 g within (told_over o.0 within g (subst (λ rs. In g (opened_at e o.0 rs)) (rows_at o.0 within) o.2))
        | inr past ↦ absurd (subst (λ rs. In g (opened_at e o.0 rs)) (rows_past o.0 past) o.2)
      ]

  groups_back : (g : OpenedGroup) → In g (joined_below (λ l. prefixes_of table ks (suc l)) (length ks)) → In g (groups_told e start level_count)
  unfolding groups_told
  groups_back g i =
      let o = from_joined (λ l. prefixes_of table ks (suc l)) (length ks) g i in
      in_joined (λ l. opened_at e l (rows_from e start l)) level_count o.0 g (omega (arith, o.1, t.few)) (subst (λ rs. In g (opened_at e o.0 rs)) (sym (rows_at o.0 o.1)) (told_back o.0 o.1 g o.2))

  no_refusals : refusals_told e start level_count ≡ []
  unfolding refusals_told refusals_at
  no_refusals = nothing_joined (λ l. refusals_at e l (rows_from e start l)) level_count (λ l. elim (cases_lt l (length ks)) [
    | inl within ↦ ap (refusals_at e l) (rows_at l within) ∙ none_refused l within
    | inr past ↦ ap (refusals_at e l) (rows_past l past)
  ])

  all_clean : (n : ℕ) → All IsClean (joined_below (λ l. counts_at e l (rows_from e start l)) n)
  unfolding counts_at
  all_clean zero = All-nil IsClean
  all_clean (suc n) = All-append IsClean (joined_below (λ l. counts_at e l (rows_from e start l)) n) (counts_at e n (rows_from e start n)) (all_clean n) (elim (cases_lt n (length ks)) [
    | inl within ↦ subst (λ rs. All IsClean (counts_at e n rs)) (sym (rows_at n within)) (counts_clean n within)
    | inr past ↦ subst (λ rs. All IsClean (counts_at e n rs)) (sym (rows_past n past)) (All-nil IsClean)
  ])

  -- a clear table reveals its prefixes, and nothing else
  pub reveals_prefixes : RevealsOnly (prefixes table ks) (reveal_of e (table_records table ks e seed))
  unfolding reveal_of levels_told prefixes in_order
  reveals_prefixes =
      let records = table_records table ks e seed in
      let first : outer_rows e records ≡ start = outer_placed e seed ks table low t good in
      let joined = joined_below (λ l. prefixes_of table ks (suc l)) (length ks) in
      let told : groups_told e (outer_rows e records) level_count ≡ groups_told e start level_count = ap (λ rs. groups_told e rs level_count) first in
      record {
        groups = same_rising by_path path_total (reveal_of e records).groups (prefixes table ks) (groups_rise e records) prefixes_rise
            (λ g i. in_in_order by_path g joined (groups_over g (subst (In g) told (from_in_order by_path g (groups_told e (outer_rows e records) level_count) i))))
            (λ g i. in_in_order by_path g (groups_told e (outer_rows e records) level_count) (subst (In g) (sym told) (groups_back g (from_in_order by_path g joined i))));
        refusals = ap (in_order by_index) ((λ i. no_outer_refusals e seed ks table low t good i ++ refusals_told e (first i) level_count) ∙ no_refusals);
        clean = subst (λ rs. All IsClean (joined_below (λ l. counts_at e l (rows_from e rs l)) level_count)) (sym first) (all_clean level_count);
      }

pub table_reveals : (e : ℕ) (seed ks : List ℕ) (table : List Values) → e < 2 ^ 32 → AreThresholds One ks → IsTableOf ks table → Clear table ks e seed → RevealsOnly (prefixes table ks) (reveal_of e (table_records table ks e seed))
table_reveals e seed ks table low t is clear = reveals_prefixes e seed ks table low t is clear

-- ---- the stream of a table

-- each frame is short enough for a record
pub frames_short : (e : ℕ) (seed ks : List ℕ) (table : List Values) → e < 2 ^ 32 → AreThresholds One ks → IsTableOf ks table → AreShort (table_frames table ks e seed)
frames_short e seed ks table low t is k d lt =
    let n : ℕ = length table in
    let within : k < n = omega (arith, lt, length-map-range_with_len (row_frame table ks e seed) 0 n) in
    let row : Values = get_or table k [] in
    let frame : get_or (table_frames table ks e seed) k d ≡ row_frame table ks e seed k = get_or-map-range_with_len (row_frame table ks e seed) 0 n k k d within (omega arith) in
    let short : length (row_frame table ks e seed k) ≤ MAX_FRAME_ONE = own_frame e seed ks k row low t (is k [] within) in
    subst (λ (bytes : List ℕ). length bytes ≤ MAX_RECORD_BYTES) (sym frame) (omega arith)

-- and what the records of the stream reveal
pub stream_reveals : (e : ℕ) (seed ks : List ℕ) (table : List Values) → e < 2 ^ 32 → AreThresholds One ks → IsTableOf ks table → Clear table ks e seed →
    RevealsOnly (prefixes table ks) (reveal_of e (stream_records (stream_of (table_frames table ks e seed))))
stream_reveals e seed ks table low t is clear =
    let frames = table_frames table ks e seed in
    let records : table_records table ks e seed ≡ stream_records (stream_of frames) = only_records (table_records table ks e seed) (stream_of frames) (are_stream frames (frames_short e seed ks table low t is)) in
    subst (λ rs. RevealsOnly (prefixes table ks) (reveal_of e rs)) records (table_reveals e seed ks table low t is clear)
