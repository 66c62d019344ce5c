-- The section of an epoch among those of all epochs.
use Rattle.std.proofs.Common.{◌≡◌, ℕ, ◌<◌, arith, true, false, cond, List, [], ◌∷◌, inl, inr, length, map, filter, refl, sym, ap, ◌∙◌, subst}
use Rattle.std.specs.Prelude.{◌==◌, ◌↔◌}
use Rattle.std.specs.List.{Contains}
use Rattle.std.specs.List.Sorted.{IsStrictlySortedBy}
use Rattle.std.specs.Ordering.{nat_cmp}
use Rattle.std.specs.declared.cmp.Ordering.TheVariants.{Less, Equal}
use Rattle.std.proofs.lemmas.Bool.{eqb-true, eqb-false}
use Rattle.std.proofs.lemmas.Cmp.{nat_cmp_total, tied_itself}
use Rattle.star_io.specs.declared.record.Record.{Record}
use Rattle.star_lists.proofs.Ascending.{rising_ascending}
use Rattle.star_lists.proofs.Elements.{In, in_from_Contains, Contains-from_in, of_all}
use Rattle.epoch_walk.specs.declared.part.EpochPart.{EpochPart}
use Rattle.epoch_walk.specs.Parts.{part, epochs}
use Rattle.epoch_walk.specs.Epochs.{part_told, section, epochs_told}
use Rattle.epoch_walk.proofs.EpochLists.{found, in_epochs, from_epochs}

-- the parts of these epochs that are of the epoch e
abbrev sections : List Record → ℕ → List ℕ → List EpochPart
sections records e qs = filter (λ (told : EpochPart). told.epoch == e) (map (λ q. part_told q (part records q)) qs)

module _ (records : List Record) (e : ℕ) where
  none_at : (qs : List ℕ) → (In e qs → ⊥) → sections records e qs ≡ []
  none_at [] h = refl
  none_at (q ∷ qs) h =
      elim (q == e) as (λ b. (q == e) ≡ b → cond b (part_told q (part records q) ∷ sections records e qs) (sections records e qs) ≡ []) [
        | true ↦ λ is. absurd (h (inl (sym (eqb-true q e is))))
        | false ↦ λ is. none_at qs (λ i. h (inr i))
      ] refl

  one_at : (qs : List ℕ) → IsStrictlySortedBy nat_cmp qs → In e qs → sections records e qs ≡ part_told e (part records e) ∷ []
  unfolding IsStrictlySortedBy
  one_at [] up i = absurd i
  one_at (q ∷ qs) up i =
      elim (q == e) as (λ b. (q == e) ≡ b → cond b (part_told q (part records q) ∷ sections records e qs) (sections records e qs) ≡ part_told e (part records e) ∷ []) [
        | true ↦ λ is.
            let same : q ≡ e = eqb-true q e is in
            let apart : In e qs → ⊥ = λ j.
            let less : nat_cmp e e ≡ Less = subst (λ n. nat_cmp n e ≡ Less) same (of_all (λ y. nat_cmp q y ≡ Less) qs up.0 e j) in
            let both : Equal ≡ Less = sym (tied_itself nat_cmp_total e) ∙ less in cc in
            (λ j. part_told (same j) (part records (same j)) ∷ none_at qs apart j)
        | false ↦ λ is. one_at qs up.1 (elim i [ inl same ↦ absurd (eqb-false q e is (sym same)) | inr j ↦ j ])
      ] refl

-- the epochs rise strictly
pub epochs_rise : (records : List Record) → IsStrictlySortedBy nat_cmp (epochs records)
epochs_rise records = rising_ascending nat_cmp nat_cmp_total (found records)

-- an epoch is there exactly if it has records
pub epochs_there : (records : List Record) (e : ℕ) → Contains (epochs records) e ↔ (0 < length (part records e))
epochs_there records e = (
  λ there. from_epochs e records (in_from_Contains (epochs records) e there),
  λ some. Contains-from_in (epochs records) e (in_epochs e records some),
)

-- the section of an epoch is that of its records alone
pub section_alone : (records : List Record) (e : ℕ) → filter (λ (told : EpochPart). told.epoch == e) (epochs_told records).parts ≡ section e (part records e)
unfolding epochs_told
section_alone records e =
    elim (part records e) as (λ l. part records e ≡ l → sections records e (epochs records) ≡ section e l) [
      | [] ↦ λ is. none_at records e (epochs records) (λ i. absurd (omega (arith, from_epochs e records i, ap length is)))
      | r ∷ rs ↦ λ is. one_at records e (epochs records) (epochs_rise records) (in_epochs e records (omega (arith, ap length is))) ∙ ap (λ l. part_told e l ∷ []) is
    ] refl
