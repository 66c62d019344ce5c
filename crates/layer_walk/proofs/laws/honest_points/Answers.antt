use Rattle.layer_walk.proofs.HonestRows.{honest_opens}
use Rattle.layer_walk.proofs.laws.honest_points.Goals as goal

pub returns : goal.returns
returns c = honest_opens
