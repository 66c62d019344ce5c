-- The epochs of a list of records, and the records of an epoch.
use Rattle.std.proofs.Common.{◌≡◌, ℕ, ◌<◌, arith, true, false, cond, List, [], ◌∷◌, ◌++◌, inl, inr, Ok, Err, length, refl, sym, ap, ◌∙◌, subst, append-nil}
use Rattle.std.specs.Prelude.{◌==◌}
use Rattle.std.specs.List.{filter_map, cons_option}
use Rattle.std.specs.Ordering.{nat_cmp}
use Rattle.std.specs.Result.{result_ok}
use Rattle.std.proofs.lemmas.Bool.{eqb-true, eqb-false, eq-eqb}
use Rattle.std.proofs.lemmas.Cmp.{nat_cmp_total}
use Rattle.std.proofs.lemmas.List.Elements.{filter-append, filter_map-append}
use Rattle.std.proofs.lemmas.Map.Lookups.{exact_unsigned}
use Rattle.star_io.specs.declared.record.Record.{Record}
use Rattle.star_lists.specs.Ascending.{ascending}
use Rattle.star_lists.proofs.Ascending.{tied_ascending, from_tied, from_ascending}
use Rattle.star_lists.proofs.Elements.{In}
use Rattle.layer_walk.specs.declared.refusal.Why.{Why}
use Rattle.epoch_walk.specs.Parts.{epoch_of, is_epoch, part, epochs}

-- the epochs of the records, in their order
abbrev pub found : List Record → List ℕ
found records = filter_map (λ item. result_ok (epoch_of item)) records

-- ---- an epoch is there if it has a record

in_found : (e : ℕ) (records : List Record) → 0 < length (part records e) → In e (found records)
in_found e [] h = absurd (omega arith)
in_found e (r ∷ rs) h =
    elim (epoch_of r) as (λ o. 0 < length (cond (is_epoch e o) (r ∷ part rs e) (part rs e)) → In e (cons_option (result_ok o) (found rs))) [
      | Ok q ↦ elim (q == e) as (λ b. (q == e) ≡ b → 0 < length (cond b (r ∷ part rs e) (part rs e)) → In e (q ∷ found rs)) [
        | true ↦ λ is more. inl (sym (eqb-true q e is))
        | false ↦ λ is more. inr (in_found e rs more)
      ] refl
      | Err why ↦ in_found e rs
    ] h

from_found : (e : ℕ) (records : List Record) → In e (found records) → 0 < length (part records e)
from_found e [] i = absurd i
from_found e (r ∷ rs) i =
    elim (epoch_of r) as (λ o. In e (cons_option (result_ok o) (found rs)) → 0 < length (cond (is_epoch e o) (r ∷ part rs e) (part rs e))) [
      | Ok q ↦ λ i. elim (q == e) as (λ b. (q == e) ≡ b → 0 < length (cond b (r ∷ part rs e) (part rs e))) [
        | true ↦ λ is. omega arith
        | false ↦ λ is. elim i [ inl same ↦ absurd (eqb-false q e is (sym same)) | inr j ↦ from_found e rs j ]
      ] refl
      | Err why ↦ from_found e rs
    ] i

pub in_epochs : (e : ℕ) (records : List Record) → 0 < length (part records e) → In e (epochs records)
in_epochs e records h =
    let tied = from_tied nat_cmp nat_cmp_total e (ascending nat_cmp (found records)) (tied_ascending nat_cmp nat_cmp_total e (found records) (in_found e records h)) in
    subst (λ w. In w (epochs records)) (sym (exact_unsigned e tied.0 tied.2)) tied.1

pub from_epochs : (e : ℕ) (records : List Record) → In e (epochs records) → 0 < length (part records e)
from_epochs e records i = from_found e records (from_ascending nat_cmp nat_cmp_total e (found records) i)

-- ---- one more record

part-push : (records : List Record) (item : Record) (e : ℕ) → part (records ++ item ∷ []) e ≡ part records e ++ cond (is_epoch e (epoch_of item)) (item ∷ []) []
part-push records item e = filter-append (λ item. is_epoch e (epoch_of item)) records (item ∷ [])

-- of this epoch
pub part_here : (records : List Record) (item : Record) (e : ℕ) → epoch_of item ≡ Ok e → part (records ++ item ∷ []) e ≡ part records e ++ item ∷ []
part_here records item e is = part-push records item e ∙ ap (λ b. part records e ++ cond b (item ∷ []) []) (ap (is_epoch e) is ∙ eq-eqb e e refl)

-- of another epoch, or of none
pub part_apart : (records : List Record) (item : Record) (e : ℕ) → is_epoch e (epoch_of item) ≡ false → part (records ++ item ∷ []) e ≡ part records e
part_apart records item e is = part-push records item e ∙ ap (λ b. part records e ++ cond b (item ∷ []) []) is ∙ append-nil (part records e)

-- a record of no epoch
pub epochs_stray : (records : List Record) (item : Record) (why : Why) → epoch_of item ≡ Err why → epochs (records ++ item ∷ []) ≡ epochs records
epochs_stray records item why is =
    ap (ascending nat_cmp)
    (filter_map-append (λ item. result_ok (epoch_of item)) records (item ∷ [])
    ∙ ap (λ o. found records ++ cons_option (result_ok o) []) is
    ∙ append-nil (found records))
