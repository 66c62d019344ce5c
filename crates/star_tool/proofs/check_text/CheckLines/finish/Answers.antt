use Rattle.std.proofs.Common.{ℕ, ap, ◌∙◌}
use Rattle.std.specs.Prelude.{Vec}
use Rattle.std.specs.declared.alloc.Global.{Global}
use Rattle.star_tool.proofs.Lines.{all_written}
use Rattle.star_tool.proofs.check_text.CheckLines.finish.Goals as goal

pub returns : goal.returns
returns c = λ records has.
    all_written records c.args.self.good c.args.self.refused _ _ has
    (ap (λ (v : Vec ℕ Global). v.items) c.into_bytes.ensures.value ∙ c.in_ok-push_count_line.ensures)
