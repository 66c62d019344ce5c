-- The lines of `expect`: one for each prefix, and a last one that counts them (docs/FORMATS.md).
use Rattle.std.specs.Prelude.{ℕ, Bool, List, ◌++◌, length, codes, if◌then◌else◌}
use Rattle.std.specs.List.{flat_map}
use Rattle.std.specs.Fmt.{decimal}
use Rattle.layer_walk.specs.declared.revealed.OpenedGroup.{OpenedGroup}
use Rattle.reveal_report.specs.RevealText.{open_line}

abbrev pub yes_or_no : Bool → List ℕ
yes_or_no clear = if clear then codes "yes" else codes "no"

abbrev pub expect_line : ℕ → Bool → List ℕ
expect_line prefixes clear = codes "prefixes=" ++ decimal prefixes ++ codes " clear=" ++ yes_or_no clear ++ codes "\n"

-- the text for these prefixes
abbrev pub expect_text_of : List OpenedGroup → Bool → List ℕ
expect_text_of prefixes clear = flat_map open_line prefixes ++ expect_line (length prefixes) clear
