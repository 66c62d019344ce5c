use Rattle.std.proofs.Common.{◌∙◌, arith}
use Rattle.poly61.proofs.Lists.{coefficient_of-past}
use Rattle.poly61.proofs.coefficients.copy_run.Goals as goal

pub copy_all-requires-clause-room : goal.copy_all-requires-clause-room
copy_all-requires-clause-room c i past = coefficient_of-past c.args.run.now i (omega (arith, past, c.requires.room))

pub places_of-requires-clause-below : goal.places_of-requires-clause-below
places_of-requires-clause-below c i past = c.copy_all.ensures.same i ∙ coefficient_of-past c.args.run.now i past
