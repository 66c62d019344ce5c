use Rattle.std.proofs.Common.{◌≡◌, ◌∙◌, ℕ, ◌+◌, List, ◌++◌, refl, ap, sym, rules, add-one}
use Rattle.star_tool.specs.SelfTestText.{ok_line, ok_lines}
use Rattle.star_tool.proofs.self_test_text.self_test_text.Goals as goal

-- one vector more
ok_lines-more : (n : ℕ) → ok_lines (n + 1) ≡ ok_lines n ++ ok_line (n + 1)
unfolding ok_lines
ok_lines-more n = rw add-one refl

pub loop-number-init : goal.loop-number-init
unfolding ok_lines
loop-number-init c = search rules

pub loop-number-preserved : goal.loop-number-preserved
loop-number-preserved c =
    let n = c.loop-number.number in
    c.in_ok-push_ok_line.ensures ∙ ap (λ (text : List ℕ). text ++ ok_line (n + 1)) c.loop-number.invariant ∙ sym (ok_lines-more n)
