use Rattle.std.proofs.Common.{arith, inl, inr, length}
use Rattle.std.proofs.lemmas.Bool.{cases_lt}
use Rattle.std.proofs.lemmas.List.{get_or_past}
use Rattle.poly61.proofs.Values.{TakesOff-zero}
use Rattle.poly61.proofs.coefficients.take_off_all.Goals as goal

pub places_of-requires-clause-below : goal.places_of-requires-clause-below
places_of-requires-clause-below c i past = elim (cases_lt i (length c.args.coefficients.now)) [
  | inl within ↦ TakesOff-zero c.args.coefficients.now c.take_off_from.new.coefficients c.args.c c.args.shift c.args.other.now i c.requires.elements c.take_off_from.ensures.taken
      (c.requires.below i (omega arith)) (λ k place. get_or_past c.args.other.now k 0 (omega arith))
  | inr full ↦ get_or_past c.take_off_from.new.coefficients i 0 (omega arith)
]
