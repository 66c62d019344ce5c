use Rattle.std.proofs.Common.{arith, ◌∙◌, inl, inr}
use Rattle.std.proofs.lemmas.Bool.{cases_lt}
use Rattle.poly61.proofs.Values.{linear_past}
use Rattle.poly61.proofs.coefficients.times_linear_all.Goals as goal

pub returns-clause-product : goal.returns-clause-product
returns-clause-product c k = elim (cases_lt k c.loop-i.i) [
  | inl done ↦ c.loop-i.invariant.done k done
  | inr past ↦ c.loop-i.invariant.rest k past ∙ c.requires.room k (omega arith) ∙ linear_past c.args.a c.args.coefficients.now c.args.places k c.requires.room (omega arith)
]
