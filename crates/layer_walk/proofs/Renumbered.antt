-- A refused record among others raises the numbers of those behind it by 1, and no more.
use Rattle.std.proofs.Common.{◌≡◌, ℕ, ◌+◌, ◌<◌, ◌≤◌, List, [], ◌∷◌, ◌++◌, Option, Some, None, Ok, Err, inl, inr, refl, sym, ap, ◌∙◌, map, length, arith}
use Rattle.std.specs.Prelude.{if◌then◌else◌, nat_lt}
use Rattle.std.specs.List.{cons_option}
use Rattle.std.specs.Option.{option_map}
use Rattle.std.proofs.lemmas.Bool.{cases_lt}
use Rattle.std.proofs.lemmas.List.Elements.{filter_map-append}
use Rattle.std.proofs.lemmas.List.{map-append}
use Rattle.star_io.specs.declared.record.Record.{Record}
use Rattle.star_lists.specs.Numbered.{numbered_from}
use Rattle.star_lists.proofs.Numbered.{numbered-append}
use Rattle.layer_walk.specs.declared.auxiliary.Aux.{Aux}
use Rattle.layer_walk.specs.declared.refusal.Refusal.{Refusal}
use Rattle.layer_walk.specs.declared.refusal.Stage.TheVariants.{Outer}
use Rattle.layer_walk.specs.declared.refusal.Why.{Why}
use Rattle.layer_walk.specs.Rows.{Row}
use Rattle.layer_walk.specs.Reveal.{first_frame, row_of, outer_of, some_of, outer_rows, outer_refusals}
use Rattle.layer_walk.specs.Laws.{lowered}
use Rattle.layer_walk.proofs.OuterRows.{numbered_row, numbered_refusal}

-- the numbers from i on, one higher
abbrev pub raised : ℕ → ℕ → ℕ
raised i n = if nat_lt n i then n else n + 1

raised_low : (i n : ℕ) → n < i → raised i n ≡ n
raised_low i n h = grind arith

raised_high : (i n : ℕ) → i ≤ n → raised i n ≡ n + 1
raised_high i n h = grind arith

pub raised_misses : (i n : ℕ) → raised i n ≡ i → ⊥
raised_misses i n e = elim (cases_lt n i) [
  | inl lt ↦ (let r : raised i n ≡ n = raised_low i n lt in let q : n ≡ i = sym r ∙ e in omega arith)
  | inr ge ↦ (let r : raised i n ≡ n + 1 = raised_high i n ge in let q : n + 1 ≡ i = sym r ∙ e in omega arith)
]

pub lowered_raised : (i n : ℕ) → lowered i (raised i n) ≡ n
lowered_raised i n = elim (cases_lt n i) [
  | inl lt ↦ ap (lowered i) (raised_low i n lt) ∙ stays lt
  | inr ge ↦ ap (lowered i) (raised_high i n ge) ∙ falls ge
]
  where
    stays : n < i → lowered i n ≡ n
    stays h = grind arith

    falls : i ≤ n → lowered i (n + 1) ≡ n
    falls h = grind arith

-- ---- of numbered items, one more in the middle

module _ {X Y : Type 0} (f : ℕ → X → Option Y) (g : (ℕ → ℕ) → Y → Y) (moves : (h : ℕ → ℕ) (i : ℕ) (x : X) → f (h i) x ≡ option_map (g h) (f i x)) where
  step : (h : ℕ → ℕ) (o : Option Y) (ys zs : List Y) → ys ≡ map (g h) zs → cons_option (option_map (g h) o) ys ≡ map (g h) (cons_option o zs)
  step h None ys zs e = e
  step h (Some y) ys zs e = ap (λ l. g h y ∷ l) e

  -- below n nothing is raised
  stays : (n i : ℕ) (xs : List X) → i + length xs ≤ n → some_of (numbered_from i f xs) ≡ map (g (raised n)) (some_of (numbered_from i f xs))
  stays n i [] h = refl
  stays n i (x ∷ xs) h =
      let same : f i x ≡ option_map (g (raised n)) (f i x) = ap (λ j. f j x) (sym (raised_low n i (omega arith))) ∙ moves (raised n) i x in
      ap (λ o. cons_option o (some_of (numbered_from (i + 1) f xs))) same ∙ step (raised n) (f i x) _ _ (stays n (i + 1) xs (omega arith))

  rises : (n i : ℕ) (xs : List X) → n ≤ i → some_of (numbered_from (i + 1) f xs) ≡ map (g (raised n)) (some_of (numbered_from i f xs))
  rises n i [] h = refl
  rises n i (x ∷ xs) h =
      let same : f (i + 1) x ≡ option_map (g (raised n)) (f i x) = ap (λ j. f j x) (sym (raised_high n i h)) ∙ moves (raised n) i x in
      ap (λ o. cons_option o (some_of (numbered_from (i + 1 + 1) f xs))) same ∙ step (raised n) (f i x) _ _ (rises n (i + 1) xs (omega arith))

  -- those before it, its own, and those behind it
  pub some_between : (xs : List X) (x : X) (ys : List X) →
      some_of (numbered_from 0 f (xs ++ x ∷ ys)) ≡ some_of (numbered_from 0 f xs) ++ cons_option (f (length xs) x) (some_of (numbered_from (length xs + 1) f ys))
  some_between xs x ys =
      ap some_of (numbered-append 0 f xs (x ∷ ys))
      ∙ filter_map-append (λ o. o) (numbered_from 0 f xs) (numbered_from (0 + length xs) f (x ∷ ys))
      ∙ ap (λ n. some_of (numbered_from 0 f xs) ++ some_of (numbered_from n f (x ∷ ys))) (omega arith)

  -- the others, whose numbers from there on are one higher
  pub some_others : (xs ys : List X) →
      some_of (numbered_from 0 f xs) ++ some_of (numbered_from (length xs + 1) f ys) ≡ map (g (raised (length xs))) (some_of (numbered_from 0 f (xs ++ ys)))
  some_others xs ys =
      let n = length xs in
      let both : some_of (numbered_from 0 f (xs ++ ys)) ≡ some_of (numbered_from 0 f xs) ++ some_of (numbered_from n f ys) =
      ap some_of (numbered-append 0 f xs ys) ∙ filter_map-append (λ o. o) (numbered_from 0 f xs) (numbered_from (0 + length xs) f ys)
      ∙ ap (λ m. some_of (numbered_from 0 f xs) ++ some_of (numbered_from m f ys)) (omega arith) in
      (λ i. stays n 0 xs (omega arith) i ++ rises n n ys (omega arith) i)
      ∙ sym (map-append (g (raised n)) (some_of (numbered_from 0 f xs)) (some_of (numbered_from n f ys)))
      ∙ ap (map (g (raised n))) (sym both)

-- ---- rows and refusals

-- the row under another number
abbrev pub renamed : (ℕ → ℕ) → Row → Row
renamed f row = record row { index = f row.index }

abbrev pub renamed_refusal : (ℕ → ℕ) → Refusal → Refusal
renamed_refusal f r = record r { index = f r.index }

abbrev pub renamed_aux : (ℕ → ℕ) → Aux → Aux
renamed_aux f a = record a { index = f a.index }

row_moves : (e : ℕ) (h : ℕ → ℕ) (i : ℕ) (r : Record) → numbered_row e (h i) r ≡ option_map (renamed h) (numbered_row e i r)
row_moves e h i r = elim (first_frame e r) as (λ o. row_of (h i) o ≡ option_map (renamed h) (row_of i o)) [ Ok frame ↦ refl | Err why ↦ refl ]

refusal_moves : (e : ℕ) (h : ℕ → ℕ) (i : ℕ) (r : Record) → numbered_refusal e (h i) r ≡ option_map (renamed_refusal h) (numbered_refusal e i r)
refusal_moves e h i r = elim (first_frame e r) as (λ o. outer_of (h i) o ≡ option_map (renamed_refusal h) (outer_of i o)) [ Ok frame ↦ refl | Err why ↦ refl ]

-- a refused record changes the numbers of the rows after it, and no more
pub rows_without : (e : ℕ) (xs : List Record) (r : Record) (ys : List Record) (why : Why) → first_frame e r ≡ Err why → outer_rows e (xs ++ r ∷ ys) ≡ map (renamed (raised (length xs))) (outer_rows e (xs ++ ys))
unfolding outer_rows
rows_without e xs r ys why is =
    some_between (numbered_row e) renamed (row_moves e) xs r ys
    ∙ ap (λ o. some_of (numbered_from 0 (numbered_row e) xs) ++ cons_option (row_of (length xs) o) (some_of (numbered_from (length xs + 1) (numbered_row e) ys))) is
    ∙ some_others (numbered_row e) renamed (row_moves e) xs ys

-- the refusals before a refused record, and behind it
abbrev pub refusals_before : ℕ → List Record → List Refusal
refusals_before e xs = some_of (numbered_from 0 (numbered_refusal e) xs)

abbrev pub refusals_behind : ℕ → ℕ → List Record → List Refusal
refusals_behind e n ys = some_of (numbered_from (n + 1) (numbered_refusal e) ys)

pub refusals_with : (e : ℕ) (xs : List Record) (r : Record) (ys : List Record) (why : Why) → first_frame e r ≡ Err why →
    outer_refusals e (xs ++ r ∷ ys) ≡ refusals_before e xs ++ record { index = length xs; stage = Outer; why = why } ∷ refusals_behind e (length xs) ys
unfolding outer_refusals
refusals_with e xs r ys why is =
    some_between (numbered_refusal e) renamed_refusal (refusal_moves e) xs r ys
    ∙ ap (λ o. refusals_before e xs ++ cons_option (outer_of (length xs) o) (refusals_behind e (length xs) ys)) is

pub refusals_without : (e : ℕ) (xs ys : List Record) → refusals_before e xs ++ refusals_behind e (length xs) ys ≡ map (renamed_refusal (raised (length xs))) (outer_refusals e (xs ++ ys))
unfolding outer_refusals
refusals_without e xs ys = some_others (numbered_refusal e) renamed_refusal (refusal_moves e) xs ys
