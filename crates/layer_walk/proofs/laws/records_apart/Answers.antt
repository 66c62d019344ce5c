use Rattle.layer_walk.proofs.AlikeReveal.{tell_alike}
use Rattle.layer_walk.proofs.AlikeOrders.{extras_alike, frames_alike, refuse_alike}
use Rattle.layer_walk.proofs.laws.records_apart.Goals as goal

pub returns-clause-told : goal.returns-clause-told
returns-clause-told c = tell_alike

pub returns-clause-extras : goal.returns-clause-extras
returns-clause-extras c = extras_alike

pub returns-clause-frames : goal.returns-clause-frames
returns-clause-frames c = frames_alike

pub returns-clause-refusals : goal.returns-clause-refusals
returns-clause-refusals c = refuse_alike
