-- The groups of a level of a clear table, their outcomes, and the rows of the next level.
use Rattle.std.proofs.Common.{◌≡◌, ◌≢◌, ℕ, suc, ◌+◌, ◌^◌, ◌<◌, ◌≤◌, Bool, true, false, cond, ◌&&◌, List, [], ◌∷◌, inl, inr, Some, None, refl, sym, ap, ap₂, ◌∙◌, subst, map, filter, length, get_or, slice_index, arith, All, eqb, eqb-true, eq-eqb}
use Rattle.std.specs.Prelude.{if◌then◌else◌, nat_le}
use Rattle.std.specs.Str.{bytes_eq}
use Rattle.std.specs.Cmp.{both_ways}
use Rattle.std.specs.Cmp.Lexicographic.{bytes_decides}
use Rattle.std.proofs.lemmas.Bool.{cases_lt, lt-ltb, leb-true, le-leb, and_from}
use Rattle.std.proofs.lemmas.List.{length-map}
use Rattle.std.proofs.lemmas.Simd.{map-map}
use Rattle.report_frame.specs.declared.head.Head.{Head}
use Rattle.report_frame.specs.Frame.{Fields}
use Rattle.report_frame.specs.Laws.{InRange}
use Rattle.report_frame.specs.Thresholds.{AreThresholds}
use Rattle.report_frame.specs.View.{head_of}
use Rattle.report_frame.specs.declared.version.Version.TheVariants.{One}
use Rattle.report_frame.proofs.FrameLaws.{in_range}
use Rattle.shamir_limbs.specs.declared.share.Point.{Point}
use Rattle.shamir_limbs.specs.KeyLine.{value, is_on_all, agreement_of_all}
use Rattle.shamir_limbs.specs.Search.{key_line_of}
use Rattle.adss_commit.specs.declared.context.Context.{Context}
use Rattle.adss_commit.specs.Derivation.{polynomial, context_head}
use Rattle.nest_client.specs.Report.{client_of, coins, point_of as point_from, layer, frame_of}
use Rattle.nest_client.proofs.Layers.{own_share}
use Rattle.star_lists.proofs.Elements.{In, Pairwise, from_filter, in_at}
use Rattle.star_lists.proofs.Inside.{from_map, pairwise_filter, pairwise_map}
use Rattle.star_lists.proofs.Mapped.{filter-map, filter_agree_in, filter_both, filter_map_if, filter_map-of_map, none_made}
use Rattle.star_lists.proofs.Counted.{length-filter-map}
use Rattle.tag_groups.specs.Left.{point_of, points_left_of}
use Rattle.tag_groups.proofs.Left.{from_left}
use Rattle.tag_groups.proofs.AllLeft.{all_left}
use Rattle.layer_walk.specs.declared.outcome.Outcome.TheVariants.{Opened, Few}
use Rattle.layer_walk.specs.declared.level.Parent.{Parent}
use Rattle.layer_walk.specs.Rows.{Row, same_group, members, points_left}
use Rattle.layer_walk.specs.Outcomes.{outcome_under, outcome_of, outcome_at}
use Rattle.layer_walk.specs.Members.{next_at}
use Rattle.layer_walk.specs.Members.Next.{Last, Inner}
use Rattle.layer_walk.specs.Laws.{honest}
use Rattle.layer_walk.specs.Levels.{where_opened, stepped, next_row, next_rows}
use Rattle.layer_walk.proofs.Same.{one_group, in_one_group}
use Rattle.layer_walk.proofs.HonestRows.{honest_opens}
use Rattle.table_law.specs.Prefixes.{Values, value_at, same_front, how_many, is_open, path_to}
use Rattle.table_law.specs.Layers.{check_before, layer_context, layer_report, row_report}
use Rattle.table_law.specs.Clear.{Clear}
use Rattle.table_law.specs.Reveals.{IsRowOf, IsTableOf}
use Rattle.table_law.proofs.Held.{report_good, holds_next, holds_last}
use Rattle.table_law.proofs.FrontLaws.{front_itself, front_turned, front_joins, front_before, front_more, open_same, path_same, path_apart, check_same, context_same}
use Rattle.table_law.proofs.Placed.{Placed, placed, in_placed, placed_apart, placed_rows, level_row}

-- all of the points lie on the polynomials
all_agree : (q0 q1 q2 : List ℕ) (points : List Point) → ((p : Point) → In p points → is_on_all q0 q1 q2 p ≡ true) → agreement_of_all q0 q1 q2 points ≡ length points
all_agree q0 q1 q2 [] h = refl
all_agree q0 q1 q2 (p ∷ points) h =
    let rest : agreement_of_all q0 q1 q2 points ≡ length points = all_agree q0 q1 q2 points (λ r i. h r (inr i)) in
    let more : 1 + length points ≡ suc (length points) = omega arith in
    ap₂ (λ (b : Bool) (n : ℕ). cond b 1 0 + n) (h p (inl refl)) rest ∙ more

-- fewer points are left than the threshold
few_points : (e l : ℕ) (rows : List Row) (row : Row) → length (points_left rows row) < (head_of row.frame).k → outcome_at e l rows row ≡ Few
unfolding outcome_at outcome_of
few_points e l rows row few =
    ap (λ b. if b then Few else outcome_under e l row.parent.check (head_of row.frame) (key_line_of (points_left rows row) (head_of row.frame).k)) (lt-ltb (length (points_left rows row)) (head_of row.frame).k few)

-- ---- a row's point and head

own_point : (e : ℕ) (seed ks : List ℕ) (i l : ℕ) (row : Values) → is_on_all (polynomial (layer_context e ks l row) 0) (polynomial (layer_context e ks l row) 1) (polynomial (layer_context e ks l row) 2) (point_of (layer_report e seed ks l i row)) ≡ true
unfolding layer_report layer
own_point e seed ks i l row =
    let c = layer_context e ks l row in
    let x = point_from (coins (client_of One e seed i) l) in
    and_from _ _ (eq-eqb (value (polynomial c 0) x) _ (sym (own_share (client_of One e seed i) c [])))
    (and_from _ _ (eq-eqb (value (polynomial c 1) x) _ refl) (eq-eqb (value (polynomial c 2) x) _ refl))

own_head : (e : ℕ) (seed ks : List ℕ) (i l : ℕ) (row : Values) → head_of (layer_report e seed ks l i row) ≡ context_head (layer_context e ks l row)
unfolding layer_report layer
own_head e seed ks i l row = refl

-- ---- one level

module _ (e : ℕ) (seed ks : List ℕ) (table : List Values) (low : e < 2 ^ 32) (t : AreThresholds One ks) (good : IsTableOf ks table) (clear : Clear table ks e seed) (l : ℕ) (within : l < length ks) where
  abbrev pub here : List Placed
  here = filter (λ (p : Placed). is_open table ks l p.row) (placed table)

  abbrev pub level_rows : List Row
  level_rows = map (level_row e seed ks l) here

  -- the rows of the table that share the first values
  abbrev pub like : Placed → List Placed
  like p = filter (λ (q : Placed). same_front (suc l) p.row q.row) (placed table)

  report_at : (p : Placed) → In p (placed table) → layer_report e seed ks l p.index p.row ≡ row_report table ks e seed l p.index
  report_at p i = ap (layer_report e seed ks l p.index) (in_placed table p i).1

  -- two rows are in the same group exactly if they share the first values
  together : (p q : Placed) → In p (placed table) → In q (placed table) → same_group (level_row e seed ks l p) (level_row e seed ks l q) ≡ true → same_front (suc l) p.row q.row ≡ true
  together p q i j h =
      let g = one_group (level_row e seed ks l p) (level_row e seed ks l q) h in
      let front : same_front l p.row q.row ≡ true = path_apart ks l p.row q.row (ap (λ (x : Parent). x.path) g.parent) in
      let rp = (in_placed table p i).1 in
      let rq = (in_placed table q j).1 in
      elim (eqb p.index q.index) as (λ b. eqb p.index q.index ≡ b → same_front (suc l) p.row q.row ≡ true) [
        | true ↦ λ same.
            let one : p.row ≡ q.row = rp ∙ ap (λ n. get_or table n []) (eqb-true p.index q.index same) ∙ sym rq in
            subst (λ r. same_front (suc l) p.row r ≡ true) one (front_itself (suc l) p.row)
        | false ↦ λ other.
            let apart : p.index ≢ q.index = λ s. let no : true ≡ false = sym (eq-eqb p.index q.index s) ∙ other in cc in
            elim (bytes_eq (value_at p.row l) (value_at q.row l)) as (λ b. bytes_eq (value_at p.row l) (value_at q.row l) ≡ b → same_front (suc l) p.row q.row ≡ true) [
              | true ↦ λ v. front_more l p.row q.row front ((bytes_decides (value_at p.row l) (value_at q.row l)).0 v)
              | false ↦ λ v. absurd ((clear.at l within).heads p.index q.index (in_placed table p i).0 (in_placed table q j).0 apart
                  (subst (λ r. same_front l r (get_or table q.index []) ≡ true) rp (subst (λ r. same_front l p.row r ≡ true) rq front))
                  (λ s. let no : true ≡ false = sym ((bytes_decides (value_at p.row l) (value_at q.row l)).1 (ap (λ r. value_at r l) rp ∙ s ∙ ap (λ r. value_at r l) (sym rq))) ∙ v in cc)
                  (ap head_of (sym (report_at p i)) ∙ g.head ∙ ap head_of (report_at q j)))
            ] refl
      ] refl

  apart_not : (p q : Placed) → same_front (suc l) p.row q.row ≡ true → same_group (level_row e seed ks l p) (level_row e seed ks l q) ≡ true
  apart_not p q h =
      let before = front_before l p.row q.row h in
      let path = path_same ks l p.row q.row before in
      let check = check_same e ks l p.row q.row before in
      in_one_group (level_row e seed ks l p) (level_row e seed ks l q) (record {
        parent = λ i. record { path = path i; check = check i };
        head = own_head e seed ks p.index l p.row ∙ ap context_head (context_same e ks l p.row q.row h) ∙ sym (own_head e seed ks q.index l q.row);
      })

  pub group_is_front : (p q : Placed) → In p (placed table) → In q (placed table) → same_group (level_row e seed ks l p) (level_row e seed ks l q) ≡ same_front (suc l) p.row q.row
  group_is_front p q i j = both_ways _ _ (together p q i j) (apart_not p q)

  -- the members of a row's group
  pub members_are : (p : Placed) → In p (placed table) → is_open table ks l p.row ≡ true → members level_rows (level_row e seed ks l p) ≡ map (level_row e seed ks l) (like p)
  members_are p i free =
      filter-map (same_group (level_row e seed ks l p)) (λ q. same_group (level_row e seed ks l p) (level_row e seed ks l q)) (level_row e seed ks l) (λ q. refl) here
      ∙ ap (map (level_row e seed ks l)) (
      filter_agree_in (λ q. same_group (level_row e seed ks l p) (level_row e seed ks l q)) (λ (q : Placed). same_front (suc l) p.row q.row) here
      (λ q j. group_is_front p q i (from_filter (λ (p : Placed). is_open table ks l p.row) (placed table) q j).0)
      ∙ filter_both (λ (q : Placed). is_open table ks l q.row) (λ (q : Placed). same_front (suc l) p.row q.row) (placed table)
      ∙ filter_agree_in (λ (q : Placed). is_open table ks l q.row && same_front (suc l) p.row q.row) (λ (q : Placed). same_front (suc l) p.row q.row) (placed table) (λ q j. absorbed q))
    where
      absorbed : (q : Placed) → (is_open table ks l q.row && same_front (suc l) p.row q.row) ≡ same_front (suc l) p.row q.row
      absorbed q = elim (same_front (suc l) p.row q.row) as (λ b. same_front (suc l) p.row q.row ≡ b → (is_open table ks l q.row && b) ≡ b) [
        | true ↦ λ h. ap (λ b. b && true) (sym (open_same table ks l p.row q.row (front_before l p.row q.row h)) ∙ free)
        | false ↦ λ h. elim (is_open table ks l q.row) as (λ b. (b && false) ≡ false) [ true ↦ refl | false ↦ refl ]
      ] refl

  pub like_counted : (p : Placed) → length (like p) ≡ how_many table (suc l) p.row
  like_counted p = sym (length-filter-map (same_front (suc l) p.row) (λ (q : Placed). q.row) (placed table)) ∙ ap (λ rows. length (filter (same_front (suc l) p.row) rows)) (placed_rows table)

  abbrev own : Placed → Point
  own q = point_of (layer_report e seed ks l q.index q.row)

  points_are : (p : Placed) → In p (placed table) → is_open table ks l p.row ≡ true → points_left level_rows (level_row e seed ks l p) ≡ points_left_of (map own (like p))
  points_are p i free =
      ap (λ rows. points_left_of (map (λ (r : Row). point_of r.frame) rows)) (members_are p i free)
      ∙ ap points_left_of (map-map (λ (r : Row). point_of r.frame) (level_row e seed ks l) (like p))

  -- no two of the points have the same x
  x_apart : (p : Placed) → Pairwise (λ (a b : Point). a.x ≡ b.x → ⊥) (map own (like p))
  x_apart p =
      pairwise_map (λ (a b : Placed). a.index ≢ b.index) (λ (a b : Point). a.x ≡ b.x → ⊥) own (like p)
      (λ a b i j apart same.
      let fa = from_filter (λ (q : Placed). same_front (suc l) p.row q.row) (placed table) a i in
      let fb = from_filter (λ (q : Placed). same_front (suc l) p.row q.row) (placed table) b j in
      let front : same_front (suc l) a.row b.row ≡ true = front_joins (suc l) a.row p.row b.row (front_turned (suc l) p.row a.row fa.1) fb.1 in
      (clear.at l within).points a.index b.index (in_placed table a fa.0).0 (in_placed table b fb.0).0 apart
      (subst (λ r. same_front (suc l) r (get_or table b.index []) ≡ true) (in_placed table a fa.0).1 (subst (λ r. same_front (suc l) a.row r ≡ true) (in_placed table b fb.0).1 front))
      (ap (λ (r : Fields). r.x) (sym (report_at a fa.0)) ∙ same ∙ ap (λ (r : Fields). r.x) (report_at b fb.0)))
      (pairwise_filter (λ (a b : Placed). a.index ≢ b.index) (λ (q : Placed). same_front (suc l) p.row q.row) (placed table) (placed_apart table))

  pub points_counted : (p : Placed) → In p (placed table) → is_open table ks l p.row ≡ true → length (points_left level_rows (level_row e seed ks l p)) ≡ how_many table (suc l) p.row
  points_counted p i free =
      ap length (points_are p i free) ∙ all_left (map own (like p)) (x_apart p) ∙ length-map (like p) own ∙ like_counted p

  pub members_counted : (p : Placed) → In p (placed table) → is_open table ks l p.row ≡ true → length (members level_rows (level_row e seed ks l p)) ≡ how_many table (suc l) p.row
  members_counted p i free = ap length (members_are p i free) ∙ length-map (like p) (level_row e seed ks l) ∙ like_counted p

  -- each point left is that of a row that shares the first values
  left_from : (p : Placed) (point : Point) → In point (points_left_of (map own (like p))) → (q : Placed) × (same_front (suc l) p.row q.row ≡ true) × (own q ≡ point)
  left_from p point i =
      let m = from_map own point (like p) (from_left (map own (like p)) point i).0 in
      (m.0, (from_filter (λ (q : Placed). same_front (suc l) p.row q.row) (placed table) m.0 m.1).1, m.2)

  -- what a row of the level holds
  holds : (p : Placed) → In p (placed table) → IsRowOf ks p.row
  holds p i = subst (IsRowOf ks) (sym (in_placed table p i).1) (good p.index [] (in_placed table p i).0)

  frames : All (λ (r : Row). InRange r.frame) level_rows
  frames k d lt =
      let m = from_map (level_row e seed ks l) (get_or level_rows k d) here (in_at level_rows k d lt) in
      let inside = (from_filter (λ (q : Placed). is_open table ks l q.row) (placed table) m.0 m.1).0 in
      let r : Fields = layer_report e seed ks l m.0.index m.0.row in
      let range : InRange r = in_range r (frame_of r) (report_good e seed ks m.0.index l m.0.row low t (holds m.0 inside) within).is_frame in
      subst (λ (row : Row). InRange row.frame) m.2 range

  -- all points left lie on the polynomials of the row's context
  all_honest : (p : Placed) → In p (placed table) → is_open table ks l p.row ≡ true →
      honest (layer_context e ks l p.row) (points_left level_rows (level_row e seed ks l p)) ≡ how_many table (suc l) p.row
  all_honest p i free =
      let c : Context = layer_context e ks l p.row in
      let left : List Point = points_left_of (map own (like p)) in
      let many : length left ≡ how_many table (suc l) p.row = ap length (sym (points_are p i free)) ∙ points_counted p i free in
      ap (honest c) (points_are p i free)
      ∙ all_agree (polynomial c 0) (polynomial c 1) (polynomial c 2) left (λ point j.
      let f = left_from p point j in
      let same : layer_context e ks l f.0.row ≡ c = sym (context_same e ks l p.row f.0.row f.1) in
      ap (is_on_all (polynomial c 0) (polynomial c 1) (polynomial c 2)) (sym f.2)
      ∙ ap (λ (d : Context). is_on_all (polynomial d 0) (polynomial d 1) (polynomial d 2) (own f.0)) (sym same)
      ∙ own_point e seed ks f.0.index l f.0.row)
      ∙ many

  -- the outcome of a group
  pub outcome_is : (p : Placed) → In p (placed table) → is_open table ks l p.row ≡ true →
      outcome_at e l level_rows (level_row e seed ks l p) ≡ (if nat_le (slice_index ks l) (how_many table (suc l) p.row) then Opened (value_at p.row l) (how_many table (suc l) p.row) else Few)
  outcome_is p i free =
      let c : Context = layer_context e ks l p.row in
      let n : ℕ = how_many table (suc l) p.row in
      let row : Row = level_row e seed ks l p in
      let counted : length (points_left level_rows row) ≡ n = points_counted p i free in
      let agree : honest c (points_left level_rows row) ≡ n = all_honest p i free in
      elim (nat_le (slice_index ks l) n) as (λ b. nat_le (slice_index ks l) n ≡ b → outcome_at e l level_rows row ≡ (if b then Opened (value_at p.row l) n else Few)) [
        | true ↦ λ h.
            let enough : slice_index ks l ≤ n = leb-true _ _ h in
            honest_opens c level_rows row (omega (arith, t.low l within)) frames (record {
              check = refl;
              head = own_head e seed ks p.index l p.row;
              many = omega arith;
              enough = omega arith;
            })
            ∙ ap (Opened (value_at p.row l)) agree
        | false ↦ λ h. few_left row n (ap (λ (head : Head). head.k) (own_head e seed ks p.index l p.row)) counted h
      ] refl
    where
      few_left : (row : Row) (n : ℕ) → (head_of row.frame).k ≡ slice_index ks l → length (points_left level_rows row) ≡ n → nat_le (slice_index ks l) n ≡ false → outcome_at e l level_rows row ≡ Few
      few_left row n head counted h = few_points e l level_rows row (elim (cases_lt n (slice_index ks l)) [
        | inl lt ↦ omega (arith, lt)
        | inr ge ↦ (let no : true ≡ false = sym (le-leb (slice_index ks l) n (omega arith)) ∙ h in absurd (cc))
      ])

  pub next_inner : (p : Placed) → In p (placed table) → suc l < length ks → next_at e l (level_row e seed ks l p) (value_at p.row l) ≡ Inner (layer_report e seed ks (suc l) p.index p.row)
  unfolding layer_report layer
  next_inner p i more = holds_next e seed ks p.index l p.row low t (holds p i) more

  pub next_last : (p : Placed) → In p (placed table) → suc l ≡ length ks → next_at e l (level_row e seed ks l p) (value_at p.row l) ≡ Last []
  unfolding layer_report layer
  next_last p i last = holds_last e seed ks p.index l p.row (holds p i) last

  -- the row of the next level
  next_is : (p : Placed) → In p (placed table) → is_open table ks l p.row ≡ true → suc l < length ks →
      next_row e l level_rows (level_row e seed ks l p) ≡ (if nat_le (slice_index ks l) (how_many table (suc l) p.row) then Some (level_row e seed ks (suc l) p) else None)
  unfolding path_to check_before layer_report layer
  next_is p i free more =
      ap (where_opened (λ value agree. stepped (level_row e seed ks l p) value (next_at e l (level_row e seed ks l p) value))) (outcome_is p i free)
      ∙ elim (nat_le (slice_index ks l) (how_many table (suc l) p.row)) as (λ b. where_opened (λ value agree. stepped (level_row e seed ks l p) value (next_at e l (level_row e seed ks l p) value)) (if b then Opened (value_at p.row l) (how_many table (suc l) p.row) else Few) ≡ (if b then Some (level_row e seed ks (suc l) p) else None)) [
        | true ↦ ap (stepped (level_row e seed ks l p) (value_at p.row l)) (next_inner p i more)
        | false ↦ refl
      ]

  -- the rows of the next level
  pub next_rows_are : suc l < length ks → next_rows e l level_rows ≡ map (level_row e seed ks (suc l)) (filter (λ (p : Placed). is_open table ks (suc l) p.row) (placed table))
  unfolding next_rows is_open
  next_rows_are more =
      filter_map-of_map (next_row e l level_rows) (level_row e seed ks l) here
      ∙ filter_map_if (λ p. next_row e l level_rows (level_row e seed ks l p)) (λ (p : Placed). nat_le (slice_index ks l) (how_many table (suc l) p.row)) (level_row e seed ks (suc l)) here
      (λ p j. let f = from_filter (λ (p : Placed). is_open table ks l p.row) (placed table) p j in next_is p f.0 f.1 more)
      ∙ ap (map (level_row e seed ks (suc l))) (filter_both (λ (p : Placed). is_open table ks l p.row) (λ (p : Placed). nat_le (slice_index ks l) (how_many table (suc l) p.row)) (placed table))

  -- after the last level there is no row
  pub no_rows_after : suc l ≡ length ks → next_rows e l level_rows ≡ []
  unfolding next_rows
  no_rows_after last =
      filter_map-of_map (next_row e l level_rows) (level_row e seed ks l) here
      ∙ none_made (λ p. next_row e l level_rows (level_row e seed ks l p)) here (λ p j.
      let f = from_filter (λ (p : Placed). is_open table ks l p.row) (placed table) p j in
      ap (where_opened (λ value agree. stepped (level_row e seed ks l p) value (next_at e l (level_row e seed ks l p) value))) (outcome_is p f.0 f.1)
      ∙ elim (nat_le (slice_index ks l) (how_many table (suc l) p.row)) as (λ b. where_opened (λ value agree. stepped (level_row e seed ks l p) value (next_at e l (level_row e seed ks l p) value)) (if b then Opened (value_at p.row l) (how_many table (suc l) p.row) else Few) ≡ None) [
        | true ↦ ap (stepped (level_row e seed ks l p) (value_at p.row l)) (next_last p f.0 last)
        | false ↦ refl
      ])
