-- What the walks of the epochs reveal, one after the other.
use Rattle.std.proofs.Common.{◌≡◌, ℕ, List, [], ◌∷◌, ◌++◌, map, sym, ap, ◌∙◌, subst, append_assoc, append-nil}
use Rattle.std.specs.Prelude.{All}
use Rattle.std.specs.List.{AllByRecursion}
use Rattle.std.specs.Map.{keys_of}
use Rattle.std.proofs.lemmas.List.Elements.{recursion_from_All}
use Rattle.star_io.specs.declared.record.Record.{Record}
use Rattle.layer_walk.specs.declared.revealed.Revealed.{Revealed}
use Rattle.layer_walk.specs.Reveal.{reveal_of}
use Rattle.layer_walk.specs.Seen.{WalkView}
use Rattle.layer_walk.specs.Standing as one
use Rattle.epoch_walk.specs.declared.part.EpochPart.{EpochPart}
use Rattle.epoch_walk.specs.Parts.{part}
use Rattle.epoch_walk.specs.Epochs.{part_told}
use Rattle.epoch_walk.specs.Standing.{StandsForPart}

-- what the records of these epochs reveal
abbrev pub told_at : List Record → List ℕ → List EpochPart
told_at records es = map (λ e. part_told e (part records e)) es

-- The parts so far and those of the walks that are left are the parts of all walks.
pub record AreToldSoFar (records : List Record) (all left : List (ℕ × WalkView)) (parts : List EpochPart) : Type 0 where
  pub joined : parts ++ told_at records (keys_of left) ≡ told_at records (keys_of all)
  pub stand : AllByRecursion (StandsForPart records) left

-- and this for each list of records that all walks represent
abbrev pub SoFar : (all left : List (ℕ × WalkView)) → List EpochPart → Type 0
SoFar all left parts = (records : List Record) → All (StandsForPart records) all → AreToldSoFar records all left parts

-- no part
pub none_told : (all left : List (ℕ × WalkView)) (parts : List EpochPart) → left ≡ all → parts ≡ [] → SoFar all left parts
none_told all left parts same none records stand = record {
  joined = (λ i. none i ++ told_at records (keys_of (same i)));
  stand = subst (AllByRecursion (StandsForPart records)) (sym same) (recursion_from_All (StandsForPart records) all stand);
}

-- one more part
pub more_told : (all left rest : List (ℕ × WalkView)) (parts new : List EpochPart) (e : ℕ) (walk : WalkView) (reveal : Revealed) → left ≡ (e, walk) ∷ rest
    → ((records : List Record) → one.StandsFor walk records → reveal ≡ reveal_of walk.epoch records)
    → new ≡ parts ++ record { epoch = e; reveal = reveal } ∷ []
    → SoFar all left parts → SoFar all rest new
more_told all left rest parts new e walk reveal is tells grown so records stand =
    let before = so records stand in
    let stands : AllByRecursion (StandsForPart records) ((e, walk) ∷ rest) = subst (AllByRecursion (StandsForPart records)) is before.stand in
    let told : record { epoch = e; reveal = reveal } ≡ part_told e (part records e) =
    ap (λ (r : Revealed). record { epoch = e; reveal = r }) (tells (part records e) stands.0.stands ∙ ap (λ n. reveal_of n (part records e)) stands.0.epoch) in
    record {
      joined =
          ap (λ l. l ++ told_at records (keys_of rest)) (grown ∙ ap (λ p. parts ++ p ∷ []) told)
          ∙ append_assoc parts (part_told e (part records e) ∷ []) (told_at records (keys_of rest))
          ∙ sym (ap (λ l. parts ++ told_at records (keys_of l)) is)
          ∙ before.joined;
      stand = stands.1;
    }

-- all parts
pub all_told : (all left : List (ℕ × WalkView)) (parts : List EpochPart) → left ≡ [] → SoFar all left parts
    → (records : List Record) → All (StandsForPart records) all → parts ≡ told_at records (keys_of all)
all_told all left parts none so records stand =
    sym (append-nil parts) ∙ sym (ap (λ l. parts ++ told_at records (keys_of l)) none) ∙ (so records stand).joined
