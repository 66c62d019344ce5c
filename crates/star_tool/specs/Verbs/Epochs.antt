-- The command `epochs`.
use Rattle.std.specs.Prelude.{ℕ, List}
use Rattle.star_io.specs.RecordLists.{stream_records}
use Rattle.epoch_walk.specs.Epochs.{epochs_told}
use Rattle.star_tool.specs.EpochsText.{epochs_text_of}

-- the text of what the records tell for each of their epochs
abbrev pub epochs_output : (bytes : List ℕ) → List ℕ
epochs_output bytes = epochs_text_of (epochs_told (stream_records bytes))
