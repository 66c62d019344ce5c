use Rattle.std.proofs.Common.{◌≡◌, ◌++◌, take, string_bytes}
use Rattle.std.specs.List.{concat}
use Rattle.star_lists.specs.Numbered.{numbered_from}
use Rattle.reveal_report.specs.RevealText.{level_line}
use Rattle.reveal_report.proofs.lines.push_level_lines.Given as goal

abbrev pub invariant-loop-number : goal.invariant-loop-number
invariant-loop-number l = string_bytes l.text ≡ string_bytes l.initial.text ++ concat (numbered_from 0 level_line (take l.number l.levels))
