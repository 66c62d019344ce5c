use Rattle.field61.proofs.Modulus.{modulus_is_prime}
use Rattle.field61.proofs.laws.modulus_is_prime.Goals as goal

pub returns : goal.returns
returns c = modulus_is_prime
