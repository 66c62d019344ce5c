use Rattle.report_frame.proofs.FrameLaws.{decoded_frame}
use Rattle.report_frame.proofs.laws.decoded_frame.Goals as goal

pub returns : goal.returns
returns c = decoded_frame
