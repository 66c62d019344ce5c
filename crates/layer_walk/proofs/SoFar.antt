-- The walk after some levels.
use Rattle.std.proofs.Common.{◌≡◌, ℕ, zero, suc, ◌+◌, ◌-◌, ◌≤◌, List, [], ◌++◌, sym, ap, ◌∙◌, subst, arith, append_assoc, append-nil, refl}
use Rattle.star_lists.specs.Numbered.{joined_below}
use Rattle.tag_groups.specs.Grouped.{groups_of}
use Rattle.layer_walk.specs.declared.grouped.GroupedLevel.{GroupedLevel}
use Rattle.layer_walk.specs.declared.level.Level.{Level}
use Rattle.layer_walk.specs.declared.refusal.Refusal.{Refusal}
use Rattle.layer_walk.specs.declared.tell.Told.{Told}
use Rattle.layer_walk.specs.Rows.{Row}
use Rattle.layer_walk.specs.Levels.{rows_from, next_rows, opened_at, counts_at, refusals_at, aux_at}
use Rattle.layer_walk.specs.Reveal.{groups_told, levels_told, refusals_told, aux_told}
use Rattle.layer_walk.specs.Made.{named, IsLevel, IsAfter}
use Rattle.layer_walk.specs.Told.{TellsLevel}

-- so much is told of the levels below n, behind these refusals
pub record IsTold (e : ℕ) (rows : List Row) (outer : List Refusal) (n : ℕ) (told : Told) : Type 0 where
  pub groups : told.groups.items ≡ groups_told e rows n
  pub levels : told.levels ≡ levels_told e rows n
  pub refusals : told.refusals.items ≡ outer ++ refusals_told e rows n
  pub aux : told.aux.items ≡ aux_told e rows n

-- n levels are done: this is level n, and so much is told
pub record IsSoFar (e : ℕ) (rows : List Row) (outer : List Refusal) (n : ℕ) (level : Level) (told : Told) : Type 0 where
  pub good : IsLevel level
  pub number : level.number ≡ n
  pub epoch : level.epoch ≡ e
  pub rows_are : named level ≡ rows_from e rows n
  pub is_told : IsTold e rows outer n told

-- no level is done
pub none_done : (level : Level) (outer : List Refusal) (told : Told) → IsLevel level → level.number ≡ 0 → told.groups.items ≡ [] → told.levels ≡ [] → told.refusals.items ≡ outer → told.aux.items ≡ [] → IsSoFar level.epoch (named level) outer 0 level told
unfolding rows_from groups_told levels_told refusals_told aux_told
none_done level outer told good number g c r a = record {
  good = good;
  number = number;
  epoch = refl;
  rows_are = refl;
  is_told = record { groups = g; levels = c; refusals = r ∙ sym (append-nil outer); aux = a };
}

-- one more level
pub one_more : (e : ℕ) (rows : List Row) (outer : List Refusal) (n : ℕ) (level next : Level) (old new : Told)
    → IsSoFar e rows outer n level old → TellsLevel level old new → IsAfter level next → IsLevel next
    → IsSoFar e rows outer (n + 1) next new
unfolding rows_from groups_told levels_told refusals_told aux_told
one_more e rows outer n level next old new so tells after good =
    let up : suc n ≡ n + 1 = omega arith in
    let told = so.is_told in
    subst (λ m. IsSoFar e rows outer m next new) up (record {
      good = good;
      number = omega (arith, after.number, so.number);
      epoch = after.epoch ∙ so.epoch;
      rows_are = after.rows ∙ (λ i. next_rows (so.epoch i) (so.number i) (so.rows_are i));
      is_told = record {
        groups = tells.groups ∙ (λ i. told.groups i ++ opened_at (so.epoch i) (so.number i) (so.rows_are i));
        levels = tells.levels ∙ (λ i. told.levels i ++ counts_at (so.epoch i) (so.number i) (so.rows_are i));
        refusals = tells.refusals ∙ (λ i. told.refusals i ++ refusals_at (so.epoch i) (so.number i) (so.rows_are i)) ∙ append_assoc outer (refusals_told e rows n) (refusals_at e n (rows_from e rows n));
        aux = tells.aux ∙ (λ i. told.aux i ++ aux_at (so.epoch i) (so.number i) (so.rows_are i));
      };
    })

-- ---- a level with no rows

no_rows_after : (e : ℕ) (rows : List Row) (n m : ℕ) → rows_from e rows n ≡ [] → rows_from e rows (n + m) ≡ []
unfolding rows_from next_rows
no_rows_after e rows n zero none = ap (rows_from e rows) {x = n + 0} {y = n} (omega arith) ∙ none
no_rows_after e rows n (suc m) none =
    ap (rows_from e rows) {x = n + suc m} {y = suc (n + m)} (omega arith) ∙ ap (next_rows e (n + m)) (no_rows_after e rows n m none)

nothing_more : {X : Type 0} (f : ℕ → List Row → List X) → ((l : ℕ) → f l [] ≡ []) → (e : ℕ) (rows : List Row) (n m : ℕ) → rows_from e rows n ≡ [] → joined_below (λ l. f l (rows_from e rows l)) (n + m) ≡ joined_below (λ l. f l (rows_from e rows l)) n
nothing_more f empty e rows n zero none = ap (joined_below (λ l. f l (rows_from e rows l))) {x = n + 0} {y = n} (omega arith)
nothing_more f empty e rows n (suc m) none =
    ap (joined_below (λ l. f l (rows_from e rows l))) {x = n + suc m} {y = suc (n + m)} (omega arith)
    ∙ ap (λ l. joined_below (λ l. f l (rows_from e rows l)) (n + m) ++ l) (ap (f (n + m)) (no_rows_after e rows n m none) ∙ empty (n + m))
    ∙ append-nil (joined_below (λ l. f l (rows_from e rows l)) (n + m))
    ∙ nothing_more f empty e rows n m none

-- A level with no rows ends the walk: the levels from it on tell nothing.
pub ends_early : (e : ℕ) (rows : List Row) (outer : List Refusal) (n m : ℕ) (level : Level) (told : Told) → IsSoFar e rows outer n level told → level.rows ≡ [] → n ≤ m → IsTold e rows outer m told
unfolding groups_told levels_told refusals_told aux_told opened_at counts_at refusals_at aux_at
ends_early e rows outer n m level told so empty below =
    let none : rows_from e rows n ≡ [] = sym so.rows_are ∙ ap (λ l. named (record level { rows = l })) empty in
    let t = so.is_told in
    let far : n + (m - n) ≡ m = omega arith in
    subst (λ k. IsTold e rows outer k told) far (record {
      groups = t.groups ∙ sym (nothing_more (opened_at e) (λ l. refl) e rows n (m - n) none);
      levels = t.levels ∙ sym (nothing_more (counts_at e) (λ l. refl) e rows n (m - n) none);
      refusals = t.refusals ∙ ap (λ l. outer ++ l) (sym (nothing_more (refusals_at e) (λ l. refl) e rows n (m - n) none));
      aux = t.aux ∙ sym (nothing_more (aux_at e) (λ l. refl) e rows n (m - n) none);
    })

-- a level with its groups, where n levels are done
pub record IsHere (e : ℕ) (rows : List Row) (outer : List Refusal) (n : ℕ) (here : GroupedLevel) (told : Told) : Type 0 where
  pub so_far : IsSoFar e rows outer n here.level told
  pub groups : here.groups ≡ groups_of here.level.rows
