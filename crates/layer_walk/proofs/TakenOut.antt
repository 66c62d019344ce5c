-- A record that is refused in the outer stage, taken out.
use Rattle.std.proofs.Common.{◌≡◌, ℕ, zero, suc, ◌+◌, ◌<◌, Bool, true, cond, not, List, [], ◌∷◌, ◌++◌, inl, inr, Err, refl, sym, ap, ◌∙◌, subst, map, filter, length, take, drop, arith, eqb, eq-eqb, length-append, length-take}
use Rattle.std.specs.List.{Contains, remove}
use Rattle.std.specs.Ordering.{nat_cmp}
use Rattle.std.proofs.lemmas.List.{length-map, map-append, map-id}
use Rattle.std.proofs.lemmas.List.Elements.{filter-append}
use Rattle.std.proofs.lemmas.Simd.{map-map}
use Rattle.star_io.specs.declared.record.Record.{Record}
use Rattle.std.proofs.lemmas.Bool.{ne_eqb}
use Rattle.star_lists.specs.Ascending.{in_order}
use Rattle.star_lists.specs.Numbered.{numbered_from}
use Rattle.star_lists.proofs.Elements.{In, in_from_Contains, Contains-from_in, filter_whole}
use Rattle.star_lists.proofs.Mapped.{filter-map}
use Rattle.star_lists.proofs.Inside.{from_filter_map, from_in_order, in_either, in_left, in_right, in_in_order}
use Rattle.star_lists.proofs.InOrder.{by_total, filter-in_order, in_order-map}
use Rattle.layer_walk.specs.declared.auxiliary.Aux.{Aux}
use Rattle.layer_walk.specs.declared.refusal.Refusal.{Refusal}
use Rattle.layer_walk.specs.declared.refusal.Stage.TheVariants.{Outer, Layer}
use Rattle.layer_walk.specs.declared.refusal.Why.{Why}
use Rattle.layer_walk.specs.Levels.{rows_from, refused_row, refusals_at}
use Rattle.layer_walk.specs.Reveal.{first_frame, outer_rows, outer_refusals, by_index, by_aux_index, by_path, level_count, groups_told, refusals_told, aux_told, levels_told, reveal_of}
use Rattle.layer_walk.specs.Laws.{lowered_refusal, lowered_aux, refusals_without as without, OnlyLacks}
use Rattle.layer_walk.proofs.OuterRows.{numbered_refusal, from_refusal}
use Rattle.layer_walk.proofs.Renumbered.{raised, raised_misses, lowered_raised, renamed, renamed_refusal, renamed_aux, rows_without, refusals_before, refusals_behind, refusals_with, refusals_without}
use Rattle.layer_walk.proofs.Renamed.{groups_told-renamed, levels_told-renamed, refusals_told-renamed, aux_told-renamed}
use Rattle.layer_walk.proofs.HeldRows.{refused_from}

raised_order : (n a b : ℕ) → nat_cmp (raised n a) (raised n b) ≡ nat_cmp a b
raised_order n a b = grind arith

-- ---- refusals

-- the refusal is of another record
other : ℕ → Refusal → Bool
other n r = not (eqb r.index n)

others_kept : (n : ℕ) (rs : List Refusal) → filter (other n) (map (renamed_refusal (raised n)) rs) ≡ map (renamed_refusal (raised n)) rs
unfolding other
others_kept n rs =
    filter-map (other n) (λ r. true) (renamed_refusal (raised n)) (λ r. ap not (ne_eqb (raised n r.index) n (raised_misses n r.index))) rs
    ∙ ap (map (renamed_refusal (raised n))) (filter_whole (λ r. true) rs (λ r i. refl))

-- the refusal of n is dropped
dropped : (n : ℕ) (us vs : List Refusal) (r : Refusal) (rs : List Refusal) → r.index ≡ n → us ++ vs ≡ map (renamed_refusal (raised n)) rs → filter (other n) (us ++ r ∷ vs) ≡ map (renamed_refusal (raised n)) rs
unfolding other
dropped n us vs r rs at is =
    let gone : eqb r.index n ≡ true = eq-eqb r.index n at in
    filter-append (other n) us (r ∷ vs)
    ∙ ap (λ b. filter (other n) us ++ cond (not b) (r ∷ filter (other n) vs) (filter (other n) vs)) gone
    ∙ sym (filter-append (other n) us vs)
    ∙ ap (filter (other n)) is
    ∙ others_kept n rs

lowered_back : (n : ℕ) (rs : List Refusal) → map (lowered_refusal n) (map (renamed_refusal (raised n)) rs) ≡ rs
lowered_back n rs =
    map-map (lowered_refusal n) (renamed_refusal (raised n)) rs ∙ (λ i. map (λ (r : Refusal). let t : Refusal = record { index = lowered_raised n r.index i; stage = r.stage; why = r.why } in t) rs)
    ∙ map-id rs

-- all refusals in order, without that of n
without_in_order : (n : ℕ) (before after : List Refusal) → filter (other n) before ≡ map (renamed_refusal (raised n)) after → without n (in_order by_index before) ≡ in_order by_index after
unfolding other
without_in_order n before after kept =
    ap (map (lowered_refusal n))
    (filter-in_order by_index (by_total (λ (r : Refusal). r.index)) (other n) before
    ∙ ap (in_order by_index) kept
    ∙ in_order-map by_index by_index (renamed_refusal (raised n)) (λ a b. raised_order n a.index b.index) after)
    ∙ lowered_back n (in_order by_index after)

-- ---- extra bytes

aux_lowered : (n : ℕ) (told : List Aux) → map (lowered_aux n) (in_order by_aux_index (map (renamed_aux (raised n)) told)) ≡ in_order by_aux_index told
aux_lowered n told =
    ap (map (lowered_aux n)) (in_order-map by_aux_index by_aux_index (renamed_aux (raised n)) (λ a b. raised_order n a.index b.index) told)
    ∙ map-map (lowered_aux n) (renamed_aux (raised n)) (in_order by_aux_index told)
    ∙ (λ i. map (λ (a : Aux). let t : Aux = record { index = lowered_raised n a.index i; level = a.level; bytes = a.bytes } in t) (in_order by_aux_index told))
    ∙ map-id (in_order by_aux_index told)

-- ---- one refused record between others

module _ (e : ℕ) (xs : List Record) (r : Record) (ys : List Record) (why : Why) (refused : first_frame e r ≡ Err why) where
  abbrev n : ℕ
  n = length xs

  abbrev all : List Record
  all = xs ++ r ∷ ys

  abbrev rest : List Record
  rest = xs ++ ys

  abbrev gone : Refusal
  gone = record { index = n; stage = Outer; why = why }

  rows : outer_rows e all ≡ map (renamed (raised n)) (outer_rows e rest)
  rows = rows_without e xs r ys why refused

  one_fewer : length all ≡ length rest + 1
  one_fewer =
      let with_it : length (xs ++ r ∷ ys) ≡ length xs + length (r ∷ ys) = length-append xs (r ∷ ys) in
      let without_it : length (xs ++ ys) ≡ length xs + length ys = length-append xs ys in
      omega arith

  outer_parts : outer_refusals e all ≡ refusals_before e xs ++ gone ∷ refusals_behind e n ys
  outer_parts = refusals_with e xs r ys why refused

  abbrev all_refusals : List Record → List Refusal
  all_refusals records = outer_refusals e records ++ refusals_told e (outer_rows e records) level_count

  refusals_kept : filter (other n) (all_refusals all) ≡ map (renamed_refusal (raised n)) (all_refusals rest)
  refusals_kept =
      let outer : filter (other n) (outer_refusals e all) ≡ map (renamed_refusal (raised n)) (outer_refusals e rest) =
      ap (filter (other n)) outer_parts ∙ dropped n (refusals_before e xs) (refusals_behind e n ys) gone (outer_refusals e rest) refl (refusals_without e xs ys) in
      let told : refusals_told e (outer_rows e all) level_count ≡ map (renamed_refusal (raised n)) (refusals_told e (outer_rows e rest) level_count) =
      ap (λ rs. refusals_told e rs level_count) rows ∙ refusals_told-renamed (raised n) e (outer_rows e rest) level_count in
      filter-append (other n) (outer_refusals e all) (refusals_told e (outer_rows e all) level_count)
      ∙ (λ i. outer i ++ (ap (filter (other n)) told ∙ others_kept n (refusals_told e (outer_rows e rest) level_count)) i)
      ∙ sym (map-append (renamed_refusal (raised n)) (outer_refusals e rest) (refusals_told e (outer_rows e rest) level_count))

  aux_moved : aux_told e (outer_rows e all) level_count ≡ map (renamed_aux (raised n)) (aux_told e (outer_rows e rest) level_count)
  aux_moved = ap (λ rs. aux_told e rs level_count) rows ∙ aux_told-renamed (raised n) e (outer_rows e rest) level_count

  groups_stay : groups_told e (outer_rows e all) level_count ≡ groups_told e (outer_rows e rest) level_count
  groups_stay = ap (λ rs. groups_told e rs level_count) rows ∙ groups_told-renamed (raised n) e (outer_rows e rest) level_count

  levels_stay : levels_told e (outer_rows e all) level_count ≡ levels_told e (outer_rows e rest) level_count
  levels_stay = ap (λ rs. levels_told e rs level_count) rows ∙ levels_told-renamed (raised n) e (outer_rows e rest) level_count

  gone_inside : In gone (in_order by_index (all_refusals all))
  gone_inside =
      let here : In gone (outer_refusals e all) = subst (In gone) (sym outer_parts) (in_right gone (refusals_before e xs) (gone ∷ refusals_behind e n ys) (inl refl)) in
      in_in_order by_index gone (all_refusals all) (in_left gone (outer_refusals e all) (refusals_told e (outer_rows e all) level_count) here)

  taken_out : OnlyLacks (reveal_of e all) (reveal_of e rest) n why
  unfolding reveal_of
  taken_out = record {
    records = one_fewer;
    rows = sym (ap length rows ∙ length-map (outer_rows e rest) (renamed (raised n)));
    groups = sym (ap (in_order by_path) groups_stay);
    levels = sym levels_stay;
    refused = Contains-from_in (in_order by_index (all_refusals all)) gone gone_inside;
    refusals = sym (without_in_order n (all_refusals all) (all_refusals rest) refusals_kept);
    aux = sym (ap (λ told. map (lowered_aux n) (in_order by_aux_index told)) aux_moved ∙ aux_lowered n (aux_told e (outer_rows e rest) level_count));
  }

-- ---- a refusal of the outer stage tells which record it is of

-- the place of a numbered item
record IsAt {X : Type 0} {Y : Type 0} (i : ℕ) (f : ℕ → X → Y) (xs : List X) (z : Y) : Type 0 where
  pub place : ℕ
  pub item : X
  pub within : place < length xs
  pub parts : xs ≡ take place xs ++ item ∷ drop (suc place) xs
  pub is : f (i + place) item ≡ z

at_place : {X Y : Type 0} (i : ℕ) (f : ℕ → X → Y) (xs : List X) (z : Y) → In z (numbered_from i f xs) → IsAt i f xs z
at_place i f [] z h = absurd h
at_place i f (x ∷ xs) z (inl e) = record { place = 0; item = x; within = omega arith; parts = refl; is = ap (λ n. f n x) (omega arith) ∙ sym e }
at_place i f (x ∷ xs) z (inr k) =
    let r = at_place (i + 1) f xs z k in
    record { place = suc r.place; item = r.item; within = omega (arith, r.within); parts = ap (λ l. x ∷ l) r.parts; is = ap (λ n. f n r.item) (omega arith) ∙ r.is }

-- no refusal of a member is of the outer stage
not_told : (e : ℕ) (records : List Record) (n : ℕ) (a : Refusal) → In a (refusals_told e (outer_rows e records) n) → a.stage ≡ Outer → ⊥
unfolding refusals_told refusals_at
not_told e records zero a i is = i
not_told e records (suc n) a i is =
    let rows_at = rows_from e (outer_rows e records) n in
    elim (in_either a (refusals_told e (outer_rows e records) n) (refusals_at e n rows_at) i) [
      | inl j ↦ not_told e records n a j is
      | inr j ↦
          let f = from_filter_map (refused_row e n rows_at) rows_at a j in
          let clash : Layer n ≡ Outer = sym (refused_from e n rows_at f.0 a f.2).stage ∙ is in
          cc
    ]

-- the record that an outer refusal is of, taken out
outer_taken_out : (e : ℕ) (records : List Record) (i : ℕ) (why : Why) → In (let a : Refusal = record { index = i; stage = Outer; why = why } in a) (outer_refusals e records) →
    OnlyLacks (reveal_of e records) (reveal_of e (remove records i)) i why
unfolding outer_refusals
outer_taken_out e records i why inside =
    let a : Refusal = record { index = i; stage = Outer; why = why } in
    let option = from_filter_map (λ o. o) (numbered_from 0 (numbered_refusal e) records) a inside in
    let at = at_place 0 (numbered_refusal e) records option.0 option.1 in
    let of = from_refusal (0 + at.place) (first_frame e at.item) a (at.is ∙ option.2) in
    let place : at.place ≡ i = omega (arith, of.index) in
    let front : List Record = take at.place records in
    let back : List Record = drop (suc at.place) records in
    let before : length front ≡ i = omega (arith, length-take at.place records, at.within, place) in
    let lacks : OnlyLacks (reveal_of e (front ++ at.item ∷ back)) (reveal_of e (front ++ back)) (length front) why = taken_out e front at.item back why of.why in
    let whole : OnlyLacks (reveal_of e records) (reveal_of e (front ++ back)) (length front) why =
    subst (λ rs. OnlyLacks (reveal_of e rs) (reveal_of e (front ++ back)) (length front) why) (sym at.parts) lacks in
    let numbered : OnlyLacks (reveal_of e records) (reveal_of e (front ++ back)) i why =
    subst (λ n. OnlyLacks (reveal_of e records) (reveal_of e (front ++ back)) n why) before whole in
    subst (λ n. OnlyLacks (reveal_of e records) (reveal_of e (take n records ++ drop (suc n) records)) i why) place numbered

-- the refused record i is taken out
pub refused_taken_out : (e : ℕ) (records : List Record) (i : ℕ) (why : Why) → Contains (reveal_of e records).refusals (record { index = i; stage = Outer; why = why }) →
    OnlyLacks (reveal_of e records) (reveal_of e (remove records i)) i why
unfolding reveal_of
refused_taken_out e records i why h =
    let a : Refusal = record { index = i; stage = Outer; why = why } in
    let all : List Refusal = outer_refusals e records ++ refusals_told e (outer_rows e records) level_count in
    elim (in_either a (outer_refusals e records) (refusals_told e (outer_rows e records) level_count) (from_in_order by_index a all (in_from_Contains (in_order by_index all) a h))) [
      | inl j ↦ outer_taken_out e records i why j
      | inr j ↦ absurd (not_told e records level_count a j refl)
    ]
