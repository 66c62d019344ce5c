-- The command `reveal`.
use Rattle.std.specs.Prelude.{ℕ, List}
use Rattle.star_io.specs.RecordLists.{stream_records}
use Rattle.layer_walk.specs.Reveal.{reveal_of}
use Rattle.reveal_report.specs.RevealText.{text_of}

-- the text of what the records tell for the epoch
abbrev pub reveal_output : (epoch : ℕ) → (bytes : List ℕ) → List ℕ
reveal_output epoch bytes = text_of (reveal_of epoch (stream_records bytes))
