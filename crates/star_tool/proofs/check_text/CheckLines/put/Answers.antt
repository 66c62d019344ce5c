use Rattle.std.proofs.Common.{refl}
use Rattle.std.specs.Prelude.{string_bytes}
use Rattle.star_tool.specs.CheckText.{finding_of}
use Rattle.star_tool.proofs.Lines.{one_written}
use Rattle.star_tool.proofs.check_text.CheckLines.put.Goals as goal

pub returns-clause-lines : goal.returns-clause-lines
returns-clause-lines c = λ findings has.
    rw (c.from.ensures, c.from-2.ensures)
    (one_written findings (finding_of c.args.entry.now) _ c.args.self.now.good c.args.self.now.refused c.in_ok-is_good.is_good
    (string_bytes c.args.self.now.text) (string_bytes c.push_line.new.text) has refl c.in_ok-is_good.ensures)
