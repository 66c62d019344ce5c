use Rattle.std.proofs.Common.{◌∙◌, ◌++◌, List, ap, arith, string_bytes}
use Rattle.std.specs.List.{concat}
use Rattle.std.proofs.lemmas.List.{take_all}
use Rattle.layer_walk.specs.declared.revealed.LevelCount.{LevelCount}
use Rattle.star_lists.specs.Numbered.{numbered_from}
use Rattle.reveal_report.specs.RevealText.{level_line, level_lines}
use Rattle.reveal_report.proofs.Growing.{concat_numbered-take_more}
use Rattle.reveal_report.proofs.lines.push_level_lines.Goals as goal

pub loop-number-preserved : goal.loop-number-preserved
loop-number-preserved c =
    concat_numbered-take_more level_line c.args.levels.now c.loop-number.number _ _ _ _ (omega arith) c.loop-number.invariant c.in_ok-push_level_line.ensures

pub returns : goal.returns
unfolding level_lines
returns c =
    c.loop-number.invariant
    ∙ ap (λ (levels : List LevelCount). string_bytes c.args.text.now ++ concat (numbered_from 0 level_line levels)) (take_all c.loop-number.number c.args.levels.now (omega arith))
