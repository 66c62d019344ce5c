use Rattle.std.proofs.Common.{◌≡◌, ◌≢◌, ◌∙◌, ℕ, ◌+◌, ◌<◌, true, inl, inr, List, [], sym, ap, subst, length, get_or, slice_index, arith}
use Rattle.std.specs.Ordering.{is_eq}
use Rattle.std.specs.BTreeMap.{BTreeMap, get}
use Rattle.std.specs.Prelude.{unwrap_or}
use Rattle.std.proofs.lemmas.Bool.{cases_lt, false≢true}
use Rattle.report_frame.specs.declared.head.Head.{Head}
use Rattle.report_frame.specs.declared.version.Version.TheVariants.{One}
use Rattle.adss_commit.specs.declared.context.Derived.{Derived}
use Rattle.adss_commit.specs.Derivation.{derived, box_of}
use Rattle.table_law.specs.declared.heads.HeadMark.{HeadMark}
use Rattle.table_law.specs.Prefixes.{Values, value_at}
use Rattle.table_law.specs.Layers.{layer_context}
use Rattle.table_law.specs.Marks.{row_head, HeadsDiffer}
use Rattle.table_law.proofs.FirstPlaces.{HasFirstsOf, chosen_more, chosen_less, none_tied, one_tied}
use Rattle.table_law.proofs.FrontMarks.{value_there}
use Rattle.table_law.proofs.Contexts.{derived_one, derived_long}
use Rattle.table_law.proofs.Marks.{head_cmp, head_mark, heads_tie, tied_heads}
use Rattle.table_law.proofs.heads.heads_differ.Goals as goal
use Rattle.table_law.proofs.heads.heads_differ.Goals.{then-longer-i+in_ok-first_place+else-branch-i, else-longer-i}

-- the head that is made from what was derived
head_made : (e : ℕ) (ks : List ℕ) (l : ℕ) (table : List Values) (i : ℕ) (d : Derived) (value boxed : List ℕ) → d ≡ derived (layer_context e ks l (get_or table i [])) → value ≡ value_at (get_or table i []) l →
    boxed ≡ box_of One d.key.bytes value → (let h : Head = record { version = One; k = slice_index ks l; tag = d.tag; check = d.check; boxed = boxed } in h) ≡ row_head e ks l table i
head_made e ks l table i d value boxed is of_row box =
    let made : boxed ≡ (row_head e ks l table i).boxed = box ∙ (λ n. box_of One (is n).key.bytes (of_row n)) in
    λ n. record { version = One; k = slice_index ks l; tag = (is n).tag; check = (is n).check; boxed = made n }

pub bounds-derived-i : goal.bounds-derived-i
bounds-derived-i c = omega (arith, c.len-i-end.ensures, derived_long c.args.epoch c.args.thresholds.now c.args.layer c.args.table.now c.args.derived.now c.requires.derived)

-- a mark that is found before row i is that of a row with the same head
found_before : (e : ℕ) (ks : List ℕ) (l : ℕ) (table : List Values) (firsts longer : List ℕ) (i place : ℕ) (key : HeadMark) (places : BTreeMap HeadMark ℕ) →
    HasFirstsOf (λ j. slice_index longer j ≡ j) head_cmp (head_mark e ks l table firsts) i places → place ≡ unwrap_or (get head_cmp places key) i → key ≡ head_mark e ks l table firsts i →
    i < length table → slice_index longer i ≡ i → (place ≡ i → ⊥) → HeadsDiffer e ks l table firsts longer → ⊥
found_before e ks l table firsts longer i place key places h is same lt own other differ =
    let tied = one_tied (λ j. (slice_index longer j ≡ j) × (is_eq (head_cmp (head_mark e ks l table firsts j) key) ≡ true)) i place (get head_cmp places key) (h key) is other in
    let both = heads_tie (head_mark e ks l table firsts place) key tied.1.1 in
    differ place i tied.0 lt tied.1.0 own (both.0 ∙ ap (λ (m : HeadMark). m.before) same) (both.1 ∙ ap (λ (m : HeadMark). m.head) same)

-- one that is found at row i alone is that of no row before it
found_here : (e : ℕ) (ks : List ℕ) (l : ℕ) (table : List Values) (firsts longer : List ℕ) (i place : ℕ) (key : HeadMark) (places : BTreeMap HeadMark ℕ) →
    HasFirstsOf (λ j. slice_index longer j ≡ j) head_cmp (head_mark e ks l table firsts) i places → place ≡ unwrap_or (get head_cmp places key) i → key ≡ head_mark e ks l table firsts i →
    slice_index longer i ≡ i → place ≡ i → (j : ℕ) → j < i → slice_index longer j ≡ j → slice_index firsts j ≡ slice_index firsts i → row_head e ks l table j ≢ row_head e ks l table i
found_here e ks l table firsts longer i place key places h is same own here j lt other before tie =
    let P : ℕ → Type 0 = λ j. (slice_index longer j ≡ j) × (is_eq (head_cmp (head_mark e ks l table firsts j) key) ≡ true) in
    none_tied P i place (get head_cmp places key) (h key)
    (own, tied_heads (head_mark e ks l table firsts i) key (ap (λ (m : HeadMark). m.before) (sym same)) (ap (λ (m : HeadMark). m.head) (sym same)))
    is here j lt
    (other, tied_heads (head_mark e ks l table firsts j) key (before ∙ ap (λ (m : HeadMark). m.before) (sym same)) (tie ∙ ap (λ (m : HeadMark). m.head) (sym same)))

pub returns-then-branch-i : goal.returns-then-branch-i
returns-then-branch-i c =
    let table = c.args.table.now in
    let ks = c.args.thresholds.now in
    let e : ℕ = c.args.epoch in
    let layer : ℕ = c.args.layer in
    let firsts = c.args.firsts.now in
    let longer = c.args.longer.now in
    let i : ℕ = c.rows.i in
    let within : i < length table = omega (arith, c.len-i-end.ensures) in
    let value : c.index-row-layer.result ≡ value_at (get_or table i []) layer =
    value_there c.row.result.now (get_or table i []) c.index-row-layer.result layer c.row.ensures c.index-row-layer.is (c.requires.width i within) in
    let found = found_before e ks layer table firsts longer i c.in_ok-first_place.field-0 _ c.rows.places c.rows.invariant.places c.in_ok-first_place.ensures.place
    (ap (λ (h : Head). let m : HeadMark = record { before = slice_index firsts i; head = h } in m) (head_made e ks layer table i _ _ c.box_value.result (derived_one e ks layer table c.args.derived.now c.requires.derived i _ within) value c.box_value.ensures))
    within c.if-longer-i.true (λ s. absurd (c.if-branch-i.true s)) in
    ((λ t. absurd (false≢true t)), (λ differ. absurd (found differ)))

pub rows-preserved : goal.rows-preserved
rows-preserved c =
    let table = c.args.table.now in
    let ks = c.args.thresholds.now in
    let e : ℕ = c.args.epoch in
    let layer : ℕ = c.args.layer in
    let firsts = c.args.firsts.now in
    let longer = c.args.longer.now in
    let i : ℕ = c.rows.i in
    let within : i < length table = omega (arith, c.len-i-end.ensures) in
    elim c.if-longer-i.branch [
      | then-longer-i+in_ok-first_place+else-branch-i w ↦
          let value : w.index-row-layer.result ≡ value_at (get_or table i []) layer =
          value_there w.row.result.now (get_or table i []) w.index-row-layer.result layer w.row.ensures w.index-row-layer.is (c.requires.width i within) in
          let same = ap (λ (h : Head). let m : HeadMark = record { before = slice_index firsts i; head = h } in m) (head_made e ks layer table i _ _ w.box_value.result (derived_one e ks layer table c.args.derived.now c.requires.derived i _ within) value w.box_value.ensures) in
          record {
            places = subst (λ (m : BTreeMap HeadMark ℕ). HasFirstsOf (λ j. slice_index longer j ≡ j) head_cmp (head_mark e ks layer table firsts) (i + 1) m) (sym w.places-is)
                (chosen_more (λ j. slice_index longer j ≡ j) head_cmp (head_mark e ks layer table firsts) i c.rows.places w.first_place.new.places _ c.rows.invariant.places w.if-longer-i.true same w.in_ok-first_place.ensures.places);
            differ = λ a b less lt own_a own_b before. elim (cases_lt b i) [
              | inl earlier ↦ c.rows.invariant.differ a b less earlier own_a own_b before
              | inr ge ↦
                  let is : i ≡ b = omega arith in
                  subst (λ n. row_head e ks layer table a ≢ row_head e ks layer table n) is
                  (found_here e ks layer table firsts longer i w.in_ok-first_place.field-0 _ c.rows.places c.rows.invariant.places w.in_ok-first_place.ensures.place same w.if-longer-i.true w.if-branch-i.false
                  a (omega arith) own_a (before ∙ ap (slice_index firsts) (sym is)))
            ];
          }
      | else-longer-i w ↦
          record {
            places = subst (λ (m : BTreeMap HeadMark ℕ). HasFirstsOf (λ j. slice_index longer j ≡ j) head_cmp (head_mark e ks layer table firsts) (i + 1) m) (sym w.places-is)
                (chosen_less (λ j. slice_index longer j ≡ j) head_cmp (head_mark e ks layer table firsts) i c.rows.places c.rows.invariant.places w.if-longer-i.false);
            differ = λ a b less lt own_a own_b before. elim (cases_lt b i) [
              | inl earlier ↦ c.rows.invariant.differ a b less earlier own_a own_b before
              | inr ge ↦
                  let is : b ≡ i = omega arith in
                  absurd (w.if-longer-i.false (subst (λ n. slice_index longer n ≡ n) is own_b))
            ];
          }
    ]
