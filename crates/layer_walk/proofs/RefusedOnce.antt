-- A record is refused at most once, it has extra bytes at most once, and the rows of each level rise by the numbers of their
-- records.
use Rattle.std.proofs.Common.{◌≡◌, ◌≢◌, ℕ, zero, suc, ◌+◌, ◌<◌, ◌≤◌, List, [], ◌∷◌, ◌++◌, Option, Some, None, Ok, Err, inl, inr, refl, sym, ap, ◌∙◌, subst, arith}
use Rattle.std.specs.List.{filter_map, cons_option}
use Rattle.std.specs.List.Sorted.{IsStrictlySortedBy}
use Rattle.std.specs.declared.cmp.Ordering.TheVariants.{Less}
use Rattle.star_io.specs.declared.record.Record.{Record}
use Rattle.std.specs.Cmp.{nat_cmp_is}
use Rattle.star_lists.specs.Numbered.{numbered_from, joined_below}
use Rattle.star_lists.proofs.Elements.{In, Pairwise, all_of, of_all}
use Rattle.star_lists.proofs.Inside.{from_filter_map, in_either, pairwise_append}
use Rattle.star_lists.proofs.InOrder.{numbers_rise}
use Rattle.layer_walk.specs.declared.auxiliary.Aux.{Aux}
use Rattle.layer_walk.specs.declared.refusal.Refusal.{Refusal}
use Rattle.layer_walk.specs.Rows.{Row}
use Rattle.layer_walk.specs.Members.Next.{Refused, Last, Inner}
use Rattle.layer_walk.specs.Levels.{next_row, next_rows, rows_from, refused_row, refusals_at, aux_row, aux_at}
use Rattle.layer_walk.specs.Reveal.{first_frame, row_of, outer_of, some_of, outer_rows, outer_refusals, by_index, by_aux_index, level_count, refusals_told, aux_told, reveal_of}
use Rattle.layer_walk.specs.Laws.{by_number}
use Rattle.layer_walk.proofs.OuterRows.{numbered_row, numbered_refusal, from_row, from_refusal}
use Rattle.layer_walk.proofs.HeldRows.{holds_one, next_from, refused_from, aux_from}

-- the numbers rise
abbrev pub Rise : {X : Type 0} → (X → ℕ) → List X → Type 0
Rise number xs = Pairwise (λ x y. number x < number y) xs

-- the numbers differ
abbrev pub Differ : {X : Type 0} → (X → ℕ) → List X → Type 0
Differ number xs = Pairwise (λ x y. number x ≢ number y) xs

rise_differ : {X : Type 0} (number : X → ℕ) (xs : List X) → Rise number xs → Differ number xs
rise_differ number [] h = tt
rise_differ number (x ∷ xs) h = (all_of (λ y. number x ≢ number y) xs (λ y i same. omega (arith, of_all (λ y. number x < number y) xs h.0 y i)), rise_differ number xs h.1)

-- ---- what is made of numbered items, each with its number

module _ {X Y : Type 0} (f : ℕ → X → Option Y) (number : Y → ℕ) (keeps : (i : ℕ) (x : X) (y : Y) → f i x ≡ Some y → number y ≡ i) where
  numbered_low : (i : ℕ) (xs : List X) (y : Y) → In y (some_of (numbered_from i f xs)) → i ≤ number y
  numbered_low i [] y h = absurd h
  numbered_low i (x ∷ xs) y h =
      elim (f i x) as (λ o. f i x ≡ o → In y (cons_option o (some_of (numbered_from (i + 1) f xs))) → i ≤ number y) [
        | None ↦ λ e k. omega (arith, numbered_low (i + 1) xs y k)
        | Some z ↦ λ e k. elim k [
          | inl q ↦ (let n : number y ≡ i = ap number q ∙ keeps i x z e in omega arith)
          | inr j ↦ omega (arith, numbered_low (i + 1) xs y j)
        ]
      ] refl h

  pub numbered_rise : (i : ℕ) (xs : List X) → Rise number (some_of (numbered_from i f xs))
  numbered_rise i [] = tt
  numbered_rise i (x ∷ xs) =
      elim (f i x) as (λ o. f i x ≡ o → Rise number (cons_option o (some_of (numbered_from (i + 1) f xs)))) [
        | None ↦ λ e. numbered_rise (i + 1) xs
        | Some z ↦ λ e. (
          all_of (λ y. number z < number y) (some_of (numbered_from (i + 1) f xs)) (λ y k. let n : number z ≡ i = keeps i x z e in omega (arith, numbered_low (i + 1) xs y k)),
          numbered_rise (i + 1) xs,
        )
      ] refl

abbrev row_number : Row → ℕ
row_number row = row.index

abbrev refusal_number : Refusal → ℕ
refusal_number a = a.index

abbrev aux_number : Aux → ℕ
aux_number a = a.index

row_keeps : (e i : ℕ) (r : Record) (row : Row) → numbered_row e i r ≡ Some row → row.index ≡ i
row_keeps e i r row h = (from_row i (first_frame e r) row h).index

refusal_keeps : (e i : ℕ) (r : Record) (a : Refusal) → numbered_refusal e i r ≡ Some a → a.index ≡ i
refusal_keeps e i r a h = (from_refusal i (first_frame e r) a h).index

-- a record gives a row or a refusal, and never both
one_or_other : (e i : ℕ) (records : List Record) (row : Row) (a : Refusal) → In row (some_of (numbered_from i (numbered_row e) records)) → In a (some_of (numbered_from i (numbered_refusal e) records)) → row.index ≡ a.index → ⊥
one_or_other e i [] row a p q same = p
one_or_other e i (r ∷ records) row a p q same =
    let low_row : In row (some_of (numbered_from (i + 1) (numbered_row e) records)) → i + 1 ≤ row.index = numbered_low (numbered_row e) row_number (row_keeps e) (i + 1) records row in
    let low_a : In a (some_of (numbered_from (i + 1) (numbered_refusal e) records)) → i + 1 ≤ a.index = numbered_low (numbered_refusal e) refusal_number (refusal_keeps e) (i + 1) records a in
    elim (first_frame e r) as (λ o. In row (cons_option (row_of i o) (some_of (numbered_from (i + 1) (numbered_row e) records))) → In a (cons_option (outer_of i o) (some_of (numbered_from (i + 1) (numbered_refusal e) records))) → ⊥) [
      | Ok frame ↦ λ p q. elim p [
        | inl s ↦ (let n : row.index ≡ i = ap row_number s in omega (arith, low_a q))
        | inr j ↦ one_or_other e (i + 1) records row a j q same
      ]
      | Err why ↦ λ p q. elim q [
        | inl s ↦ (let n : a.index ≡ i = ap refusal_number s in omega (arith, low_row p))
        | inr j ↦ one_or_other e (i + 1) records row a p j same
      ]
    ] p q

-- ---- from level to level

-- what keeps the numbers of those that give something keeps them rising
kept_rise : {X Y : Type 0} (number : X → ℕ) (other : Y → ℕ) (f : X → Option Y) → ((x : X) (y : Y) → f x ≡ Some y → other y ≡ number x) → (xs : List X) → Rise number xs → Rise other (filter_map f xs)
kept_rise number other f keeps [] h = tt
kept_rise number other f keeps (x ∷ xs) h =
    elim (f x) as (λ o. f x ≡ o → Rise other (cons_option o (filter_map f xs))) [
      | None ↦ λ e. kept_rise number other f keeps xs h.1
      | Some y ↦ λ e. (
        all_of (λ z. other y < other z) (filter_map f xs) (λ z i.
            let r = from_filter_map f xs z i in
            let a : other y ≡ number x = keeps x y e in
            let b : other z ≡ number r.0 = keeps r.0 z r.2 in
            omega (arith, of_all (λ w. number x < number w) xs h.0 r.0 r.1)),
        kept_rise number other f keeps xs h.1,
      )
    ] refl

rows_rise : (e : ℕ) (records : List Record) (l : ℕ) → Rise row_number (rows_from e (outer_rows e records) l)
unfolding rows_from next_rows outer_rows
rows_rise e records zero = numbered_rise (numbered_row e) row_number (row_keeps e) 0 records
rows_rise e records (suc l) =
    let rows = rows_from e (outer_rows e records) l in
    kept_rise row_number row_number (next_row e l rows) (λ row next h. (next_from e l rows row next h).index) rows (rows_rise e records l)

-- rows of one level with one number are one
one_row : (rows : List Row) → Rise row_number rows → (p q : Row) → In p rows → In q rows → p.index ≡ q.index → p ≡ q
one_row [] h p q i j same = absurd i
one_row (r ∷ rows) h p q (inl e) (inl f) same = e ∙ sym f
one_row (r ∷ rows) h p q (inl e) (inr j) same = absurd (let s : p.index ≡ r.index = ap row_number e in omega (arith, of_all (λ (w : Row). r.index < w.index) rows h.0 q j))
one_row (r ∷ rows) h p q (inr i) (inl f) same = absurd (let s : q.index ≡ r.index = ap row_number f in omega (arith, of_all (λ (w : Row). r.index < w.index) rows h.0 p i))
one_row (r ∷ rows) h p q (inr i) (inr j) same = one_row rows h.1 p q i j same

-- a row of these has the number
abbrev HasNumber : ℕ → List Row → Type 0
HasNumber n rows = (r : Row) × In r rows × (r.index ≡ n)

module _ (e : ℕ) (records : List Record) where
  abbrev at_level : ℕ → List Row
  at_level l = rows_from e (outer_rows e records) l

  -- a row of a level has the number of a row of the level before
  back_one : (l n : ℕ) → HasNumber n (at_level (suc l)) → HasNumber n (at_level l)
  unfolding rows_from next_rows
  back_one l n h =
      let f = from_filter_map (next_row e l (at_level l)) (at_level l) h.0 h.1 in
      (f.0, f.1, sym (next_from e l (at_level l) f.0 h.0 f.2).index ∙ h.2)

  -- and so of a row of level 0
  back : (l n : ℕ) → HasNumber n (at_level l) → HasNumber n (outer_rows e records)
  unfolding rows_from
  back zero n h = h
  back (suc l) n h = back l n (back_one l n h)

-- ---- what is told of a row that gives no row of the next level

module _ {T : Type 0} (number : T → ℕ) (e : ℕ) (told : ℕ → List Row → Row → Option T)
    (keeps : (l : ℕ) (rows : List Row) (row : Row) (t : T) → told l rows row ≡ Some t → number t ≡ row.index)
    (ends : (l : ℕ) (rows : List Row) (row next : Row) (t : T) → told l rows row ≡ Some t → next_row e l rows row ≡ Some next → ⊥) (records : List Record) where
  abbrev pub told_at : ℕ → List T
  told_at l = filter_map (told l (at_level e records l)) (at_level e records l)

  abbrev pub told_below : ℕ → List T
  told_below n = joined_below told_at n

  -- it has the number of a row of the level
  told_number : (l : ℕ) (t : T) → In t (told_at l) → HasNumber (number t) (at_level e records l)
  told_number l t i =
      let f = from_filter_map (told l (at_level e records l)) (at_level e records l) t i in
      (f.0, f.1, sym (keeps l (at_level e records l) f.0 t f.2))

  -- and of none of the next level
  gone : (l : ℕ) (t : T) → In t (told_at l) → HasNumber (number t) (at_level e records (suc l)) → ⊥
  unfolding rows_from next_rows
  gone l t i h =
      let rows = at_level e records l in
      let f = from_filter_map (next_row e l rows) rows h.0 h.1 in
      let g = from_filter_map (told l rows) rows t i in
      let same : f.0.index ≡ g.0.index = sym (next_from e l rows f.0 h.0 f.2).index ∙ h.2 ∙ keeps l rows g.0 t g.2 in
      let one : f.0 ≡ g.0 = one_row rows (rows_rise e records l) f.0 g.0 f.1 g.1 same in
      ends l rows g.0 h.0 t g.2 (subst (λ r. next_row e l rows r ≡ Some h.0) one f.2)

  gone_before : (n : ℕ) (t : T) → In t (told_below n) → HasNumber (number t) (at_level e records n) → ⊥
  gone_before zero t i h = i
  gone_before (suc n) t i h = elim (in_either t (told_below n) (told_at n) i) [
    | inl j ↦ gone_before n t j (back_one e records n (number t) h)
    | inr j ↦ gone n t j h
  ]

  -- so no two have one number
  pub told_differ : (n : ℕ) → Differ number (told_below n)
  told_differ zero = tt
  told_differ (suc n) =
      let rows = at_level e records n in
      let here : Rise number (told_at n) = kept_rise row_number number (told n rows) (keeps n rows) rows (rows_rise e records n) in
      pairwise_append (λ a b. number a ≢ number b) (told_below n) (told_at n) (told_differ n) (rise_differ number (told_at n) here)
      (λ a b i j same. gone_before n a i (subst (λ m. HasNumber m rows) (sym same) (told_number n b j)))

  -- and each has the number of a row of level 0
  pub told_outer : (n : ℕ) (t : T) → In t (told_below n) → HasNumber (number t) (outer_rows e records)
  told_outer zero t i = absurd i
  told_outer (suc n) t i = elim (in_either t (told_below n) (told_at n) i) [
    | inl j ↦ told_outer n t j
    | inr j ↦ back e records n (number t) (told_number n t j)
  ]

-- ---- refusals

refusal_ends : (e l : ℕ) (rows : List Row) (row next : Row) (a : Refusal) → refused_row e l rows row ≡ Some a → next_row e l rows row ≡ Some next → ⊥
refusal_ends e l rows row next a r n =
    let clash : Refused a.why ≡ Inner next.frame = holds_one e l rows row (Refused a.why) (Inner next.frame) (refused_from e l rows row a r).held (next_from e l rows row next n).held in
    cc

refused_keeps : (e l : ℕ) (rows : List Row) (row : Row) (a : Refusal) → refused_row e l rows row ≡ Some a → a.index ≡ row.index
refused_keeps e l rows row a h = (refused_from e l rows row a h).index

all_differ : (e : ℕ) (records : List Record) → Differ refusal_number (outer_refusals e records ++ refusals_told e (outer_rows e records) level_count)
unfolding outer_refusals outer_rows refusals_told refusals_at
all_differ e records =
    pairwise_append (λ (a b : Refusal). a.index ≢ b.index) (outer_refusals e records) (refusals_told e (outer_rows e records) level_count)
    (rise_differ refusal_number (outer_refusals e records) (numbered_rise (numbered_refusal e) refusal_number (refusal_keeps e) 0 records))
    (told_differ refusal_number e (refused_row e) (refused_keeps e) (refusal_ends e) records level_count)
    (λ a b i j same.
    let h = told_outer refusal_number e (refused_row e) (refused_keeps e) (refusal_ends e) records level_count b j in
    one_or_other e 0 records h.0 a h.1 i (h.2 ∙ sym same))

-- the refusals rise strictly: a record has at most one
pub refusals_rise : (e : ℕ) (records : List Record) → IsStrictlySortedBy by_index (reveal_of e records).refusals
unfolding reveal_of
refusals_rise e records = numbers_rise refusal_number (outer_refusals e records ++ refusals_told e (outer_rows e records) level_count) (all_differ e records)

-- ---- extra bytes

aux_ends : (e l : ℕ) (rows : List Row) (row next : Row) (a : Aux) → aux_row e l rows row ≡ Some a → next_row e l rows row ≡ Some next → ⊥
aux_ends e l rows row next a r n =
    let clash : Last a.bytes ≡ Inner next.frame = holds_one e l rows row (Last a.bytes) (Inner next.frame) (aux_from e l rows row a r).held (next_from e l rows row next n).held in
    cc

aux_keeps : (e l : ℕ) (rows : List Row) (row : Row) (a : Aux) → aux_row e l rows row ≡ Some a → a.index ≡ row.index
aux_keeps e l rows row a h = (aux_from e l rows row a h).index

aux_differ : (e : ℕ) (records : List Record) → Differ aux_number (aux_told e (outer_rows e records) level_count)
unfolding aux_told aux_at
aux_differ e records = told_differ aux_number e (aux_row e) (aux_keeps e) (aux_ends e) records level_count

-- the extra bytes rise strictly: a record has some at most once
pub aux_rise : (e : ℕ) (records : List Record) → IsStrictlySortedBy by_aux_index (reveal_of e records).aux
unfolding reveal_of
aux_rise e records = numbers_rise aux_number (aux_told e (outer_rows e records) level_count) (aux_differ e records)

-- ---- rows

sorted_rows : (rows : List Row) → Rise row_number rows → IsStrictlySortedBy by_number rows
unfolding IsStrictlySortedBy
sorted_rows [] h = tt
sorted_rows (r ∷ rows) h = (all_of (λ w. by_number r w ≡ Less) rows (λ w i. sym (nat_cmp_is r.index w.index Less (of_all (λ (w : Row). r.index < w.index) rows h.0 w i))), sorted_rows rows h.1)

pub levels_rise : (e : ℕ) (records : List Record) (l : ℕ) → IsStrictlySortedBy by_number (rows_from e (outer_rows e records) l)
levels_rise e records l = sorted_rows (rows_from e (outer_rows e records) l) (rows_rise e records l)
