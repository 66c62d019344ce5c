use Rattle.std.proofs.Common.{arith, ◌∙◌}
use Rattle.poly61.proofs.Convolution.{is_blend}
use Rattle.poly61.proofs.blocks.blend_all.Goals as goal

pub places_of-requires-clause-below : goal.places_of-requires-clause-below
places_of-requires-clause-below c i past = c.blend_places.ensures.rest i past ∙ c.requires.below i (omega arith)

pub returns-clause-blend : goal.returns-clause-blend
returns-clause-blend c = is_blend c.args.coefficients.now c.blend_places.new.coefficients c.args.other.now c.args.c c.args.d c.max-reach.result (λ i h. c.requires.below i (omega arith)) (λ i h. c.requires.other_below i (omega arith)) c.blend_places.ensures.blend c.blend_places.ensures.rest
