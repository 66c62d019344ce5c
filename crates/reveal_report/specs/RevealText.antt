-- The lines of a reveal, and its summary.
use Rattle.std.specs.Prelude.{ℕ, List, ◌++◌, length, codes}
use Rattle.std.specs.List.{flat_map, concat}
use Rattle.std.specs.Fmt.{decimal}
use Rattle.hex.specs.Hex.{encode_lower}
use Rattle.sha2.specs.Sha256.{sha256}
use Rattle.star_lists.specs.Numbered.{numbered_from}
use Rattle.layer_walk.specs.declared.auxiliary.Aux.{Aux}
use Rattle.layer_walk.specs.declared.refusal.Refusal.{Refusal}
use Rattle.layer_walk.specs.declared.revealed.OpenedGroup.{OpenedGroup}
use Rattle.layer_walk.specs.declared.revealed.LevelCount.{LevelCount}
use Rattle.layer_walk.specs.declared.revealed.Revealed.{Revealed}
use Rattle.reveal_report.specs.Escape.{escaped}
use Rattle.reveal_report.specs.Names.{stage_text, why_name}
use Rattle.reveal_report.specs.Paths.{path_text}

-- the line of an opened group
abbrev pub open_line : OpenedGroup → List ℕ
open_line group =
    codes "open " ++ path_text group.path ++ codes " points=" ++ decimal group.points
    ++ codes " agree=" ++ decimal group.agree ++ codes " members=" ++ decimal group.members ++ codes "\n"

-- the line of the level of this number
abbrev pub level_line : ℕ → LevelCount → List ℕ
level_line number level =
    codes "level " ++ decimal number ++ codes " opened=" ++ decimal level.opened ++ codes " few=" ++ decimal level.few
    ++ codes " noline=" ++ decimal level.no_line ++ codes " badvalue=" ++ decimal level.bad_value ++ codes "\n"

abbrev pub refusal_line : Refusal → List ℕ
refusal_line refusal =
    codes "refused " ++ decimal refusal.index ++ codes " " ++ stage_text refusal.stage ++ codes " " ++ why_name refusal.why ++ codes "\n"

-- the line of some extra bytes
abbrev pub aux_line : Aux → List ℕ
aux_line aux = codes "aux " ++ decimal aux.index ++ codes " " ++ decimal aux.level ++ codes " " ++ escaped aux.bytes ++ codes "\n"

-- the line of each level, counted from 0
unfoldable pub level_lines : List LevelCount → List ℕ
level_lines levels = concat (numbered_from 0 level_line levels)

-- the last line: how many records there are, how many of them are rows of level 0, and how many reports are refused
abbrev pub last_line : Revealed → List ℕ
last_line reveal =
    codes "records=" ++ decimal reveal.records ++ codes " rows=" ++ decimal reveal.rows ++ codes " refused=" ++ decimal (length reveal.refusals) ++ codes "\n"

-- the text of a reveal: the lines of its opened groups, levels, refusals and extra bytes, and the last line
unfoldable pub text_of : Revealed → List ℕ
text_of reveal =
    flat_map open_line reveal.groups ++ level_lines reveal.levels ++ flat_map refusal_line reveal.refusals ++ flat_map aux_line reveal.aux
    ++ last_line reveal

-- the line that has the SHA-256 of a text
abbrev pub digest_line : List ℕ → List ℕ
digest_line text = codes "text=" ++ encode_lower (sha256 text) ++ codes "\n"

-- the lines of the levels, the last line, and the digest of the whole text
unfoldable pub summary_of : Revealed → List ℕ
summary_of reveal = level_lines reveal.levels ++ last_line reveal ++ digest_line (text_of reveal)
