use Rattle.std.proofs.Common.{◌≡◌, ◌++◌, take, string_bytes}
use Rattle.std.specs.List.{flat_map}
use Rattle.star_tool.specs.EpochsText.{stray_line}
use Rattle.star_tool.proofs.epochs_text.push_stray_lines.Given as goal

abbrev pub invariant-loop-stray : goal.invariant-loop-stray
invariant-loop-stray l = string_bytes l.text ≡ string_bytes l.initial.text ++ flat_map stray_line (take l.stray-index l.strays)
