-- What a list of records reveals for each of its epochs.
use Rattle.std.specs.Prelude.{ℕ, List, [], ◌∷◌, length, map, Option, None, Some, Result, Ok, Err}
use Rattle.star_io.specs.declared.record.Record.{Record}
use Rattle.star_lists.specs.Numbered.{numbered_from}
use Rattle.layer_walk.specs.declared.refusal.Why.{Why}
use Rattle.layer_walk.specs.Reveal.{some_of, reveal_of}
use Rattle.epoch_walk.specs.declared.part.EpochPart.{EpochPart}
use Rattle.epoch_walk.specs.declared.stray.Stray.{Stray}
use Rattle.epoch_walk.specs.declared.epochs_out.EpochsOut.{EpochsOut}
use Rattle.epoch_walk.specs.Parts.{epoch_of, part, epochs}

-- the stray of record i, if it has no epoch
abbrev pub stray_of : ℕ → Result ℕ Why → Option Stray
stray_of i (Ok e) = None
stray_of i (Err why) = Some (record { index = i; why = why })

-- the records that have no epoch, by their places in the whole list
abbrev pub strays : List Record → List Stray
strays records = some_of (numbered_from 0 (λ i item. stray_of i (epoch_of item)) records)

-- what these records of one epoch reveal
abbrev pub part_told : ℕ → List Record → EpochPart
part_told e records = record { epoch = e; reveal = reveal_of e records }

-- what the records of each epoch reveal, as if there were no others
abbrev pub parts : List Record → List EpochPart
parts records = map (λ e. part_told e (part records e)) (epochs records)

-- what the records reveal
unfoldable pub epochs_told : List Record → EpochsOut
epochs_told records = record { records = length records; parts = parts records; strays = strays records }

-- the section of an epoch: what its records reveal, if there are some
abbrev pub section : ℕ → List Record → List EpochPart
section e [] = []
section e (item ∷ items) = part_told e (item ∷ items) ∷ []
