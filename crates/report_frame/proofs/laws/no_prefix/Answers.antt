use Rattle.report_frame.proofs.FrameLaws.{no_prefix}
use Rattle.report_frame.proofs.laws.no_prefix.Goals as goal

pub returns : goal.returns
returns c = no_prefix
