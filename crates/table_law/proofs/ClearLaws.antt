-- A layer is clear exactly if its points and its heads differ.
use Rattle.std.proofs.Common.{◌≡◌, ◌≢◌, ℕ, suc, ◌+◌, ◌<◌, true, List, [], inl, inr, sym, ap, ◌∙◌, length, get_or, slice_index, arith}
use Rattle.std.proofs.lemmas.Bool.{cases_lt}
use Rattle.report_frame.specs.declared.version.Version.TheVariants.{One}
use Rattle.report_frame.specs.View.{head_of}
use Rattle.adss_commit.specs.Derivation.{context_head}
use Rattle.nest_client.specs.Report.{client_of, coins, point_of}
use Rattle.nest_client.proofs.Held.{layer_head, layer_point}
use Rattle.star_lists.proofs.Elements.{In, in_at}
use Rattle.table_law.specs.Prefixes.{Values, value_at, same_front}
use Rattle.table_law.specs.Layers.{layer_context, layer_body, layer_report, row_report}
use Rattle.table_law.specs.Fronts.{first_of, firsts_of}
use Rattle.table_law.specs.Clear.{IsClearAt}
use Rattle.table_law.specs.Marks.{ArePoints, PointsDiffer, row_head, HeadsDiffer}
use Rattle.table_law.proofs.FrontLaws.{front_before, front_last, front_more, context_same}
use Rattle.table_law.proofs.RowPlaces.{first_below, first_like, same_firsts, firsts_same}
use Rattle.table_law.proofs.Growing.{first_at, firsts_long}

-- x in layer l of the report of row i
own_x : (table : List Values) (ks : List ℕ) (e : ℕ) (seed : List ℕ) (l i : ℕ) → (row_report table ks e seed l i).x ≡ point_of (coins (client_of One e seed i) l)
unfolding layer_report
own_x table ks e seed l i =
    layer_point (client_of One e seed i) 0 (layer_context e ks l (get_or table i [])) (layer_body e seed ks l i (get_or table i []))

own_head : (table : List Values) (ks : List ℕ) (e : ℕ) (seed : List ℕ) (l i : ℕ) → head_of (row_report table ks e seed l i) ≡ row_head e ks l table i
unfolding layer_report
own_head table ks e seed l i =
    layer_head (client_of One e seed i) 0 (layer_context e ks l (get_or table i [])) (layer_body e seed ks l i (get_or table i []))

module _ (table : List Values) (ks : List ℕ) (e : ℕ) (seed : List ℕ) (l : ℕ) (firsts longer : List ℕ) (known : firsts ≡ firsts_of table l) (more : longer ≡ firsts_of table (l + 1)) where
  abbrev row_at : ℕ → Values
  row_at i = get_or table i []

  -- rows begin with the same l + 1 values if they have the same first one
  same_longer : (i j : ℕ) → i < length table → j < length table → slice_index longer i ≡ slice_index longer j → same_front (suc l) (row_at i) (row_at j) ≡ true
  same_longer i j li lj same =
      ap (λ n. same_front n (row_at i) (row_at j)) {x = suc l} {y = l + 1} (omega arith)
      ∙ firsts_same table (l + 1) (row_at i) (row_at j) (in_at table i [] li) (in_at table j [] lj) (sym (first_at table (l + 1) longer more i li) ∙ same ∙ first_at table (l + 1) longer more j lj)

  longer_same : (i j : ℕ) → i < length table → j < length table → same_front (suc l) (row_at i) (row_at j) ≡ true → slice_index longer i ≡ slice_index longer j
  longer_same i j li lj same =
      first_at table (l + 1) longer more i li
      ∙ same_firsts table (l + 1) (row_at i) (row_at j) (ap (λ n. same_front n (row_at i) (row_at j)) {x = l + 1} {y = suc l} (omega arith) ∙ same)
      ∙ sym (first_at table (l + 1) longer more j lj)

  same_shorter : (i j : ℕ) → i < length table → j < length table → slice_index firsts i ≡ slice_index firsts j → same_front l (row_at i) (row_at j) ≡ true
  same_shorter i j li lj same =
      firsts_same table l (row_at i) (row_at j) (in_at table i [] li) (in_at table j [] lj) (sym (first_at table l firsts known i li) ∙ same ∙ first_at table l firsts known j lj)

  shorter_same : (i j : ℕ) → i < length table → j < length table → same_front l (row_at i) (row_at j) ≡ true → slice_index firsts i ≡ slice_index firsts j
  shorter_same i j li lj same =
      first_at table l firsts known i li ∙ same_firsts table l (row_at i) (row_at j) same ∙ sym (first_at table l firsts known j lj)

  -- ---- points

  module _ (layers : ℕ) (points : List (List ℕ)) (are : ArePoints seed (length table) layers points) (within : l < layers) where
    x_at : (i : ℕ) → i < length table → slice_index (get_or points i []) l ≡ (row_report table ks e seed l i).x
    x_at i lt = are.1 e i l lt within ∙ sym (own_x table ks e seed l i)

    pub points_clear : PointsDiffer points l longer → (i j : ℕ) → i < length table → j < length table → i ≢ j → same_front (suc l) (row_at i) (row_at j) ≡ true →
        (row_report table ks e seed l i).x ≢ (row_report table ks e seed l j).x
    points_clear differ i j li lj apart same tie =
        let long : length longer ≡ length table = firsts_long table (l + 1) longer more in
        elim (cases_lt i j) [
          | inl less ↦ differ i j less (omega arith) (longer_same i j li lj same) (x_at i li ∙ tie ∙ sym (x_at j lj))
          | inr ge ↦ elim (cases_lt j i) [
            | inl less ↦ differ j i less (omega arith) (sym (longer_same i j li lj same)) (x_at j lj ∙ sym tie ∙ sym (x_at i li))
            | inr le ↦ apart (omega arith)
          ]
        ]

    pub clear_points : IsClearAt table ks e seed l → PointsDiffer points l longer
    clear_points clear i j less lj same tie =
        let long : length longer ≡ length table = firsts_long table (l + 1) longer more in
        let i_in : i < length table = omega arith in
        let j_in : j < length table = omega arith in
        let apart : i ≢ j = λ s. absurd (omega arith) in
        clear.points i j i_in j_in apart (same_longer i j i_in j_in same) (sym (x_at i i_in) ∙ tie ∙ x_at j j_in)

  -- ---- heads

  -- the first row that begins with the row's l + 1 values
  record FirstRow (i : ℕ) : Type 0 where
    place : ℕ
    within : place < length table
    own : slice_index longer place ≡ place
    like : same_front (suc l) (row_at i) (row_at place) ≡ true

  first_row : (i : ℕ) → i < length table → FirstRow i
  first_row i lt =
      let row = row_at i in
      let inside : In row table = in_at table i [] lt in
      let p : ℕ = first_of table (l + 1) row in
      let within : p < length table = first_below table (l + 1) row inside in
      let like : same_front (l + 1) row (row_at p) ≡ true = first_like table (l + 1) row inside in
      record {
        place = p;
        within = within;
        own = first_at table (l + 1) longer more p within ∙ sym (same_firsts table (l + 1) row (row_at p) like);
        like = ap (λ n. same_front n row (row_at p)) {x = suc l} {y = l + 1} (omega arith) ∙ like;
      }

  -- rows that begin with the same values have the same head
  head_same : (i j : ℕ) → same_front (suc l) (row_at i) (row_at j) ≡ true → row_head e ks l table i ≡ row_head e ks l table j
  head_same i j same = ap context_head (context_same e ks l (row_at i) (row_at j) same)

  pub heads_clear : HeadsDiffer e ks l table firsts longer → (i j : ℕ) → i < length table → j < length table → i ≢ j → same_front l (row_at i) (row_at j) ≡ true →
      value_at (row_at i) l ≢ value_at (row_at j) l → head_of (row_report table ks e seed l i) ≢ head_of (row_report table ks e seed l j)
  heads_clear differ i j li lj apart same values tie =
      let p = first_row i li in
      let q = first_row j lj in
      let heads : row_head e ks l table p.place ≡ row_head e ks l table q.place =
      sym (head_same i p.place p.like) ∙ sym (own_head table ks e seed l i) ∙ tie ∙ own_head table ks e seed l j ∙ head_same j q.place q.like in
      let fronts : slice_index firsts p.place ≡ slice_index firsts q.place =
      sym (shorter_same i p.place li p.within (front_before l (row_at i) (row_at p.place) p.like)) ∙ shorter_same i j li lj same
      ∙ shorter_same j q.place lj q.within (front_before l (row_at j) (row_at q.place) q.like) in
      let no : p.place ≢ q.place = λ s. values (front_last l (row_at i) (row_at p.place) p.like ∙ ap (λ n. value_at (row_at n) l) s ∙ sym (front_last l (row_at j) (row_at q.place) q.like)) in
      elim (cases_lt p.place q.place) [
        | inl less ↦ differ p.place q.place less q.within p.own q.own fronts heads
        | inr ge ↦ elim (cases_lt q.place p.place) [
          | inl less ↦ differ q.place p.place less p.within q.own p.own (sym fronts) (sym heads)
          | inr le ↦ no (omega arith)
        ]
      ]

  pub clear_heads : IsClearAt table ks e seed l → HeadsDiffer e ks l table firsts longer
  clear_heads clear i j less lj own_i own_j same tie =
      let i_in : i < length table = omega arith in
      let apart : i ≢ j = λ s. absurd (omega arith) in
      let front : same_front l (row_at i) (row_at j) ≡ true = same_shorter i j i_in lj same in
      let values : value_at (row_at i) l ≢ value_at (row_at j) l =
      λ s. let one : i ≡ j = sym own_i ∙ longer_same i j i_in lj (front_more l (row_at i) (row_at j) front s) ∙ own_j in absurd (omega arith) in
      clear.heads i j i_in lj apart front values (own_head table ks e seed l i ∙ tie ∙ sym (own_head table ks e seed l j))
