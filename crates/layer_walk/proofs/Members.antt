-- The rows at one more place, and what they hold.
use Rattle.std.proofs.Common.{◌≡◌, ℕ, ◌+◌, ◌<◌, List, [], ◌∷◌, ◌++◌, Option, Some, sym, ap, ◌∙◌, length, take, get_or}
use Rattle.std.specs.Prelude.{slice_get}
use Rattle.std.specs.List.{filter_map, cons_option}
use Rattle.std.proofs.lemmas.List.{take_more}
use Rattle.std.proofs.lemmas.List.Elements.{filter_map-append}
use Rattle.std.proofs.lemmas.Option.{slice_get-get_or}
use Rattle.tag_groups.specs.RowView.{RowView}
use Rattle.tag_groups.specs.Laws.{rows_at}
use Rattle.layer_walk.specs.declared.keys.Keys.{Keys}
use Rattle.layer_walk.specs.declared.member.Held.{Held}
use Rattle.layer_walk.specs.Outs.{inner_under, refusal_under, aux_under}
use Rattle.layer_walk.specs.Held.{HeldOf, HoldsMore}

-- the rows at one more place
pub rows_more : (rows : List RowView) (places : List ℕ) (i : ℕ) (row : RowView) → i < length places → get_or places i 0 < length rows
    → row ≡ get_or rows (get_or places i 0) row → rows_at rows (take (i + 1) places) ≡ rows_at rows (take i places) ++ row ∷ []
rows_more rows places i row lt inside is =
    let place = get_or places i 0 in
    let found : slice_get rows place ≡ Some row = slice_get-get_or rows place row inside ∙ ap (λ r. Some r) (sym is) in
    ap (rows_at rows) (take_more places i 0 lt) ∙ filter_map-append (slice_get rows) (take i places) (place ∷ [])
    ∙ ap (λ o. rows_at rows (take i places) ++ cons_option o []) found

-- a filter_map of one element more
pub filter_map-last : {X Y : Type 0} (f : X → Option Y) (xs ys : List X) (x : X) (old new : List Y) → ys ≡ xs ++ x ∷ []
    → old ≡ filter_map f xs → new ≡ old ++ cons_option (f x) [] → new ≡ filter_map f ys
filter_map-last f xs ys x old new is was more =
    more ∙ ap (λ l. l ++ cons_option (f x) []) was ∙ sym (filter_map-append f xs (x ∷ [])) ∙ ap (filter_map f) (sym is)

-- what the rows hold with one row more
pub held_more : (keys : Keys) (rows more : List RowView) (row : RowView) (old new : Held) → more ≡ rows ++ row ∷ []
    → HeldOf keys rows old → HoldsMore keys row old new → HeldOf keys more new
held_more keys rows more row old new is held step =
    record {
      inner = filter_map-last (inner_under keys) rows more row old.inner new.inner is held.inner step.inner;
      refusals = filter_map-last (refusal_under keys) rows more row old.refusals new.refusals is held.refusals step.refusals;
      aux = filter_map-last (aux_under keys) rows more row old.aux new.aux is held.aux step.aux;
    }
