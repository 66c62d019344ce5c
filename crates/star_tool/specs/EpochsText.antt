-- The lines of `epochs`: a section for each epoch, a line for each stray, and a last one that counts (docs/FORMATS.md).
use Rattle.std.specs.Prelude.{ℕ, List, ◌++◌, length, codes}
use Rattle.std.specs.List.{flat_map}
use Rattle.std.specs.Fmt.{decimal}
use Rattle.reveal_report.specs.Names.{why_name}
use Rattle.reveal_report.specs.RevealText.{text_of}
use Rattle.epoch_walk.specs.declared.part.EpochPart.{EpochPart}
use Rattle.epoch_walk.specs.declared.stray.Stray.{Stray}
use Rattle.epoch_walk.specs.declared.epochs_out.EpochsOut.{EpochsOut}

-- the line with which the section of an epoch begins
abbrev pub epoch_line : ℕ → List ℕ
epoch_line e = codes "epoch " ++ decimal e ++ codes "\n"

-- the section of an epoch: its line, and the text of what its reports tell
abbrev pub section_text : EpochPart → List ℕ
section_text told = epoch_line told.epoch ++ text_of told.reveal

-- the line of a record that belongs to no epoch
abbrev pub stray_line : Stray → List ℕ
stray_line stray = codes "refused " ++ decimal stray.index ++ codes " " ++ why_name stray.why ++ codes "\n"

-- the last line: how many records, epochs and strays there are
abbrev pub epochs_line : EpochsOut → List ℕ
epochs_line epochs =
    codes "records=" ++ decimal epochs.records ++ codes " epochs=" ++ decimal (length epochs.parts) ++ codes " refused=" ++ decimal (length epochs.strays) ++ codes "\n"

-- the whole text
unfoldable pub epochs_text_of : EpochsOut → List ℕ
epochs_text_of epochs = flat_map section_text epochs.parts ++ (flat_map stray_line epochs.strays ++ epochs_line epochs)
