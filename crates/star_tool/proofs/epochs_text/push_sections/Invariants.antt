use Rattle.std.proofs.Common.{◌≡◌, ◌++◌, take}
use Rattle.std.specs.List.{flat_map}
use Rattle.star_tool.specs.EpochsText.{section_text}
use Rattle.star_tool.proofs.epochs_text.push_sections.Given as goal

abbrev pub invariant-loop-part : goal.invariant-loop-part
invariant-loop-part l = l.text.items ≡ l.initial.text.items ++ flat_map section_text (take l.part-index l.parts)
