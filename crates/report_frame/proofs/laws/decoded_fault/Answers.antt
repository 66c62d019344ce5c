use Rattle.report_frame.proofs.FrameLaws.{decoded_fault}
use Rattle.report_frame.proofs.laws.decoded_fault.Goals as goal

pub returns : goal.returns
returns c = decoded_fault
