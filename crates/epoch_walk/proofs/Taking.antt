-- A walk over many epochs that takes one more record.
use Rattle.std.proofs.Common.{◌≡◌, ℕ, ◌+◌, ◌<◌, arith, List, [], ◌∷◌, ◌++◌, Option, None, Some, Ok, Err, length, sym, ap, ◌∙◌, subst, length-append, append-nil}
use Rattle.std.specs.Prelude.{◌≢◌}
use Rattle.std.specs.List.{cons_option}
use Rattle.std.specs.Option.{ForSome}
use Rattle.std.specs.Ordering.{nat_cmp}
use Rattle.std.specs.BTreeMap.{BTreeMap, get, IsOrdered}
use Rattle.std.specs.Map.{keys_of}
use Rattle.std.proofs.lemmas.List.Elements.{All-weaker}
use Rattle.star_io.specs.declared.record.Record.{Record}
use Rattle.star_lists.proofs.Elements.{filter_fewer}
use Rattle.star_lists.proofs.Numbered.{given_push}
use Rattle.layer_walk.specs.declared.refusal.Why.{Why}
use Rattle.layer_walk.specs.Seen.{WalkView}
use Rattle.layer_walk.specs.Standing as one
use Rattle.epoch_walk.specs.declared.stray.Stray.{Stray}
use Rattle.epoch_walk.specs.Seen.{EpochWalkView}
use Rattle.epoch_walk.specs.Parts.{epoch_of, is_epoch, part}
use Rattle.epoch_walk.specs.Epochs.{stray_of, strays}
use Rattle.epoch_walk.specs.Standing.{StandsAt, StandsForPart, StandsFor}
use Rattle.epoch_walk.proofs.EpochLists.{part_apart, epochs_stray}
use Rattle.epoch_walk.proofs.AtEpoch.{stands_at_each, keys_from_each, walks_from_each, stands_grown}

strays-push : (records : List Record) (item : Record) → strays (records ++ item ∷ []) ≡ strays records ++ cons_option (stray_of (length records) (epoch_of item)) []
strays-push records item = given_push (λ i r. stray_of i (epoch_of r)) records item

-- a report of level 0
pub takes_report : (taken : ℕ) (m n : BTreeMap ℕ WalkView) (lost : List Stray) (item : Record) (e : ℕ) → epoch_of item ≡ Ok e → IsOrdered nat_cmp n
    → ((some : List Record) → StandsAt e (get nat_cmp m e) some → StandsAt e (get nat_cmp n e) (some ++ item ∷ []))
    → ((other : ℕ) → other ≢ e → get nat_cmp n other ≡ get nat_cmp m other)
    → (records : List Record) → StandsFor (record { taken = taken; walks = m.entries; strays = lost }) records
    → StandsFor (record { taken = taken + 1; walks = n.entries; strays = lost }) (records ++ item ∷ [])
takes_report taken m n lost item e is ordered here elsewhere records stands =
    let each = stands_grown records item e m n is here elsewhere (stands_at_each records m stands.epochs_are stands.walks_are) in
    record {
      taken = omega (arith, stands.taken, length-append records (item ∷ []));
      epochs_are = keys_from_each (records ++ item ∷ []) n ordered each;
      walks_are = walks_from_each (records ++ item ∷ []) n ordered each;
      strays_are = stands.strays_are ∙ sym (strays-push records item ∙ ap (λ o. strays records ++ cons_option (stray_of (length records) o) []) is ∙ append-nil (strays records));
    }

-- a record of no epoch
pub takes_stray : (taken : ℕ) (walks : List (ℕ × WalkView)) (lost : List Stray) (item : Record) (why : Why) → epoch_of item ≡ Err why
    → (records : List Record) → StandsFor (record { taken = taken; walks = walks; strays = lost }) records
    → StandsFor (record { taken = taken + 1; walks = walks; strays = lost ++ record { index = taken; why = why } ∷ [] }) (records ++ item ∷ [])
takes_stray taken walks lost item why is records stands =
    record {
      taken = omega (arith, stands.taken, length-append records (item ∷ []));
      epochs_are = stands.epochs_are ∙ sym (epochs_stray records item why is);
      walks_are = All-weaker (StandsForPart records) (StandsForPart (records ++ item ∷ []))
          (λ entry here. record { epoch = here.epoch; stands = subst (one.StandsFor entry.1) (sym (part_apart records item entry.0 (ap (is_epoch entry.0) is))) here.stands })
          walks stands.walks_are;
      strays_are =
          (λ i. stands.strays_are i ++ record { index = stands.taken i; why = why } ∷ [])
          ∙ sym (strays-push records item ∙ ap (λ o. strays records ++ cons_option (stray_of (length records) o) []) is);
    }

room_at : (e : ℕ) (o : Option WalkView) (some : List Record) (most : ℕ) → StandsAt e o some → length some < most → ForSome o (λ walk. walk.taken < most)
room_at e None some most here few = λ x is. absurd (cc)
room_at e (Some walk) some most here few = λ x is. omega (arith, here.2.taken, let same : walk ≡ x = cc in ap (λ (w : WalkView). w.taken) same)

-- the walk of an epoch may take one more if the whole may
pub room : (taken most : ℕ) (m : BTreeMap ℕ WalkView) (lost : List Stray) (records : List Record) → StandsFor (record { taken = taken; walks = m.entries; strays = lost }) records
    → taken < most → (e : ℕ) → ForSome (get nat_cmp m e) (λ walk. walk.taken < most)
room taken most m lost records stands few e =
    room_at e (get nat_cmp m e) (part records e) most (stands_at_each records m stands.epochs_are stands.walks_are e)
    (omega (arith, filter_fewer (λ r. is_epoch e (epoch_of r)) records, stands.taken))

-- no record
pub stands_empty : (walk : EpochWalkView) → walk.taken ≡ 0 → walk.walks ≡ [] → walk.strays ≡ [] → StandsFor walk []
stands_empty walk taken walks lost = record {
  taken = taken;
  epochs_are = ap (λ (l : List (ℕ × WalkView)). keys_of l) walks;
  walks_are = λ k d lt. absurd (omega (arith, ap length walks));
  strays_are = lost;
}
