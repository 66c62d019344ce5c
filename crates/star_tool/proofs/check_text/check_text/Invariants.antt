use Rattle.std.proofs.Common.{◌≡◌, ◌+◌, take, map, string_bytes}
use Rattle.star_tool.specs.CheckText.{HasLines, finding_of}
use Rattle.star_tool.proofs.check_text.check_text.Given as goal

abbrev pub invariant-loop-entry : goal.invariant-loop-entry
invariant-loop-entry l = record {
  number : l.lines.good + l.lines.refused ≡ l.entry-index;
  lines : HasLines (map finding_of (take l.entry-index l.records)) l.lines.good l.lines.refused (string_bytes l.lines.text);
}
