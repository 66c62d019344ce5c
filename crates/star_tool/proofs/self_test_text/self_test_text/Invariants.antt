use Rattle.std.proofs.Common.{◌≡◌}
use Rattle.std.specs.Prelude.{string_bytes}
use Rattle.star_tool.specs.SelfTestText.{ok_lines}
use Rattle.star_tool.proofs.self_test_text.self_test_text.Given as goal

abbrev pub invariant-loop-number : goal.invariant-loop-number
invariant-loop-number l = string_bytes l.text ≡ ok_lines l.number
