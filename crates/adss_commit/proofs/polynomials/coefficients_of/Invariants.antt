use Rattle.std.proofs.Common.{◌≡◌, [], ◌∷◌}
use Rattle.adss_commit.proofs.Filling.{filled}
use Rattle.adss_commit.proofs.polynomials.coefficients_of.Given as goal

abbrev pub invariant-powers : goal.invariant-powers
invariant-powers l = l.made ≡ filled l.context 0 l.i ∷ filled l.context 1 l.i ∷ filled l.context 2 l.i ∷ []
