use Rattle.nest_client.proofs.Held.{layer_is_frame}
use Rattle.nest_client.proofs.laws.layer_is_frame.Goals as goal

pub returns : goal.returns
returns c = layer_is_frame
