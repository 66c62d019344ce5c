-- What is at each epoch, and the walks of the epochs.
use Rattle.std.proofs.Common.{◌≡◌, ℕ, ◌<◌, arith, true, false, List, [], ◌∷◌, ◌++◌, Option, None, Some, Ok, length, refl, sym, ap, ◌∙◌, subst}
use Rattle.std.specs.Prelude.{◌==◌, ◌≢◌, IsSome, All}
use Rattle.std.specs.Cmp.{eq_by_cmp_equiv}
use Rattle.std.specs.Ordering.{nat_cmp}
use Rattle.std.specs.BTreeMap.{BTreeMap, get, keys, IsOrdered}
use Rattle.std.proofs.lemmas.Bool.{eqb-true, eqb-false, false≢true}
use Rattle.std.proofs.lemmas.Cmp.{nat_cmp_total}
use Rattle.std.proofs.lemmas.List.Elements.{All-contains, All-weaker}
use Rattle.std.proofs.lemmas.Map.Lookups.{exact_unsigned}
use Rattle.std.proofs.lemmas.Map.Views.{tells_apart, Contains-from_lookup, Contains-keys_from_lookup, IsSome-lookup_from_Contains, All-found}
use Rattle.star_io.specs.declared.record.Record.{Record}
use Rattle.star_lists.proofs.Ascending.{rising_ascending}
use Rattle.star_lists.proofs.Elements.{In, in_from_Contains, Contains-from_in}
use Rattle.star_lists.proofs.Rising.{same_rising}
use Rattle.layer_walk.specs.Seen.{WalkView}
use Rattle.epoch_walk.specs.Parts.{epoch_of, is_epoch, part, epochs}
use Rattle.epoch_walk.specs.Standing.{StandsAt, StandsForPart}
use Rattle.epoch_walk.proofs.EpochLists.{found, in_epochs, from_epochs, part_here, part_apart}

-- there is a walk at each epoch that has records, and none at the others
abbrev pub StandsAtEach : List Record → BTreeMap ℕ WalkView → Type 0
StandsAtEach records m = (e : ℕ) → StandsAt e (get nat_cmp m e) (part records e)

none_of : (records : List Record) → (0 < length records → ⊥) → records ≡ []
none_of [] h = refl
none_of (r ∷ rs) h = absurd (h (omega arith))

some_there : (e : ℕ) (o : Option WalkView) (records : List Record) → IsSome o → StandsAt e o records → 0 < length records
some_there e None records s h = absurd (false≢true s)
some_there e (Some walk) records s h = h.1

is_there : (e : ℕ) (o : Option WalkView) (records : List Record) → 0 < length records → StandsAt e o records → IsSome o
is_there e None records some h = absurd (omega (arith, ap length h))
is_there e (Some walk) records some h = refl

module _ (records : List Record) (m : BTreeMap ℕ WalkView) where
  -- if the walks are those of the epochs
  pub stands_at_each : keys m ≡ epochs records → All (StandsForPart records) m.entries → StandsAtEach records m
  stands_at_each same all e =
      elim (get nat_cmp m e) as (λ o. get nat_cmp m e ≡ o → StandsAt e o (part records e)) [
        | None ↦ λ is. none_of (part records e) (λ some.
            false≢true (subst IsSome is (IsSome-lookup_from_Contains (eq_by_cmp_equiv nat_cmp_total) e m.entries (Contains-from_in (keys m) e (subst (In e) (sym same) (in_epochs e records some))))))
        | Some walk ↦ λ is.
            let here : StandsForPart records (e, walk) = All-contains (StandsForPart records) m.entries (e, walk) all (Contains-from_lookup (tells_apart exact_unsigned) e walk m.entries is) in
            let there : In e (keys m) = in_from_Contains (keys m) e (Contains-keys_from_lookup (tells_apart exact_unsigned) e m.entries (subst IsSome (sym is) refl)) in
            (here.epoch, from_epochs e records (subst (In e) same there), here.stands)
      ] refl

  -- and the other way
  pub keys_from_each : IsOrdered nat_cmp m → StandsAtEach records m → keys m ≡ epochs records
  keys_from_each ordered each =
      same_rising nat_cmp nat_cmp_total (keys m) (epochs records) ordered (rising_ascending nat_cmp nat_cmp_total (found records))
      (λ z i. in_epochs z records (some_there z (get nat_cmp m z) (part records z) (IsSome-lookup_from_Contains (eq_by_cmp_equiv nat_cmp_total) z m.entries (Contains-from_in (keys m) z i)) (each z)))
      (λ z i. in_from_Contains (keys m) z (Contains-keys_from_lookup (tells_apart exact_unsigned) z m.entries (is_there z (get nat_cmp m z) (part records z) (from_epochs z records i) (each z))))

  pub walks_from_each : IsOrdered nat_cmp m → StandsAtEach records m → All (StandsForPart records) m.entries
  walks_from_each ordered each =
      All-weaker (λ (entry : ℕ × WalkView). get nat_cmp m entry.0 ≡ Some entry.1) (StandsForPart records)
      (λ entry is. let here : StandsAt entry.0 (Some entry.1) (part records entry.0) = subst (λ o. StandsAt entry.0 o (part records entry.0)) is (each entry.0) in record { epoch = here.0; stands = here.2 })
      m.entries (All-found nat_cmp_total m ordered)

-- one more record of the epoch e
pub stands_grown : (records : List Record) (item : Record) (e : ℕ) (m n : BTreeMap ℕ WalkView) → epoch_of item ≡ Ok e
    → ((some : List Record) → StandsAt e (get nat_cmp m e) some → StandsAt e (get nat_cmp n e) (some ++ item ∷ []))
    → ((other : ℕ) → other ≢ e → get nat_cmp n other ≡ get nat_cmp m other)
    → StandsAtEach records m → StandsAtEach (records ++ item ∷ []) n
stands_grown records item e m n is here elsewhere each q =
    elim (e == q) as (λ b. (e == q) ≡ b → StandsAt q (get nat_cmp n q) (part (records ++ item ∷ []) q)) [
      | true ↦ λ same. subst (λ p. StandsAt p (get nat_cmp n p) (part (records ++ item ∷ []) p)) (eqb-true e q same)
          (subst (StandsAt e (get nat_cmp n e)) (sym (part_here records item e is)) (here (part records e) (each e)))
      | false ↦ λ apart.
          subst (λ o. StandsAt q o (part (records ++ item ∷ []) q)) (sym (elsewhere q (λ same. eqb-false e q apart (sym same))))
          (subst (StandsAt q (get nat_cmp m q)) (sym (part_apart records item q (ap (is_epoch q) is ∙ apart))) (each q))
    ] refl
