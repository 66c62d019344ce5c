-- What is derived from the contexts of a layer, and the checks of the layer before.
use Rattle.std.proofs.Common.{◌≡◌, ℕ, suc, ◌+◌, ◌<◌, ◌≤◌, List, [], ◌∷◌, inl, inr, refl, sym, ap, ◌∙◌, map, length, get_or, replicate, arith}
use Rattle.std.proofs.lemmas.Bool.{cases_lt, false≢true}
use Rattle.std.proofs.lemmas.List.{get_or-map, length-map}
use Rattle.report_frame.specs.declared.limits.TheConstants.{CHECK_BYTES}
use Rattle.adss_commit.specs.declared.context.Derived.{Derived}
use Rattle.adss_commit.specs.Derivation.{derived}
use Rattle.star_lists.proofs.Elements.{In, in_at}
use Rattle.table_law.specs.Prefixes.{Values, same_front}
use Rattle.table_law.specs.Layers.{check_before, layer_context}
use Rattle.table_law.specs.Fronts.{first_of}
use Rattle.table_law.specs.Marks.{checks_before, derived_at}
use Rattle.table_law.proofs.FrontLaws.{front_itself, context_same}
use Rattle.table_law.proofs.RowPlaces.{first_like, first_place_of, first_is}
use Rattle.table_law.proofs.Growing.{mapped_alike}

pub check_at : (e : ℕ) (ks : List ℕ) (l : ℕ) (table : List Values) (checks : List (List ℕ)) → checks ≡ checks_before e ks l table → (j : ℕ) (d : List ℕ) → j < length table →
    get_or checks j d ≡ check_before e ks l (get_or table j [])
unfolding checks_before
check_at e ks l table checks known j d lt = ap (λ cs. get_or cs j d) known ∙ get_or-map (check_before e ks l) table j [] d lt

pub checks_long : (e : ℕ) (ks : List ℕ) (l : ℕ) (table : List Values) (checks : List (List ℕ)) → checks ≡ checks_before e ks l table → length checks ≡ length table
unfolding checks_before
checks_long e ks l table checks known = ap length known ∙ length-map table (check_before e ks l)

pub derived_one : (e : ℕ) (ks : List ℕ) (l : ℕ) (table : List Values) (all : List Derived) → all ≡ derived_at e ks l table → (j : ℕ) (d : Derived) → j < length table →
    get_or all j d ≡ derived (layer_context e ks l (get_or table j []))
unfolding derived_at
derived_one e ks l table all known j d lt = ap (λ ds. get_or ds j d) known ∙ get_or-map (λ row. derived (layer_context e ks l row)) table j [] d lt

pub derived_long : (e : ℕ) (ks : List ℕ) (l : ℕ) (table : List Values) (all : List Derived) → all ≡ derived_at e ks l table → length all ≡ length table
unfolding derived_at
derived_long e ks l table all known = ap length known ∙ length-map table (λ row. derived (layer_context e ks l row))

-- the first row that begins with the same values isn't after the row
pub first_no_later : (table : List Values) (n i : ℕ) → i < length table → first_of table n (get_or table i []) ≤ i
first_no_later table n i lt =
    let row : Values = get_or table i [] in
    let inside : In row table = in_at table i [] lt in
    let r = first_place_of table n row inside in
    elim (cases_lt i r.place) [
      | inl more ↦ absurd (false≢true (sym (r.before i more) ∙ front_itself n row))
      | inr le ↦ omega (arith, first_is table n row inside)
    ]

-- what is derived for it is derived for the row
pub derived_same : (e : ℕ) (ks : List ℕ) (l : ℕ) (table : List Values) (i : ℕ) → i < length table →
    derived (layer_context e ks l (get_or table (first_of table (l + 1) (get_or table i [])) [])) ≡ derived (layer_context e ks l (get_or table i []))
derived_same e ks l table i lt =
    let row : Values = get_or table i [] in
    let first : Values = get_or table (first_of table (l + 1) row) [] in
    ap derived (sym (context_same e ks l row first
    (ap (λ n. same_front n row first) {x = suc l} {y = l + 1} (omega arith) ∙ first_like table (l + 1) row (in_at table i [] lt))))

-- the checks of the next layer are those that were derived
pub next_checks : (e : ℕ) (ks : List ℕ) (l : ℕ) (table : List Values) (all : List Derived) → all ≡ derived_at e ks l table → map (λ (d : Derived). d.check) all ≡ checks_before e ks (l + 1) table
unfolding derived_at checks_before check_before
next_checks e ks l table all known =
    ap (map (λ (d : Derived). d.check)) known ∙ each table
    ∙ ap (λ n. map (check_before e ks n) table) {x = suc l} {y = l + 1} (omega arith)
  where
    each : (rows : List Values) → map (λ (d : Derived). d.check) (map (λ row. derived (layer_context e ks l row)) rows) ≡ map (check_before e ks (suc l)) rows
    each [] = refl
    each (row ∷ rows) = ap (λ cs. check_before e ks (suc l) row ∷ cs) (each rows)

-- at layer 0 they are zeros
pub no_checks : (e : ℕ) (ks : List ℕ) (table : List Values) → replicate (length table) (replicate CHECK_BYTES 0) ≡ checks_before e ks 0 table
unfolding checks_before check_before
no_checks e ks table = mapped_alike (check_before e ks 0) (replicate CHECK_BYTES 0) (λ row. refl) table
