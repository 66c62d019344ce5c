-- The modulus 2 ^ 61 - 1 is prime.
use Rattle.std.proofs.Common.{[], ◌∷◌, refl, lit<}
use Rattle.std.specs.List.{IsDistinct}
use Rattle.std.proofs.lemmas.List.Elements.{All-nil, All-cons}
use Rattle.field61.specs.Prime.{IsPrime, HasWitness}
use Rattle.field61.specs.declared.TheConstants.{MODULUS}
use Rattle.field61.proofs.Pocklington.{HasWitness-computed, pocklington}
use Rattle.field61.proofs.Trial.{prime_by_trial}

-- four primes that divide the modulus less 1, with their witnesses to the base 3
witness_61 : HasWitness MODULUS 61
witness_61 = HasWitness-computed MODULUS 61 3 1125899906842623 73219245529501761 61 (prime_by_trial 61 (lit< tt) refl) refl (lit< tt) (lit< tt) refl refl refl

witness_151 : HasWitness MODULUS 151
witness_151 = HasWitness-computed MODULUS 151 3 2211238755008147948 1896004468068488480 61 (prime_by_trial 151 (lit< tt) refl) refl (lit< tt) (lit< tt) refl refl refl

witness_331 : HasWitness MODULUS 331
witness_331 = HasWitness-computed MODULUS 331 3 1491285494954315878 1881382712785867029 61 (prime_by_trial 331 (lit< tt) refl) refl (lit< tt) (lit< tt) refl refl refl

witness_1321 : HasWitness MODULUS 1321
witness_1321 = HasWitness-computed MODULUS 1321 3 234060095121088421 828993518632009434 61 (prime_by_trial 1321 (lit< tt) refl) refl (lit< tt) (lit< tt) refl refl refl

-- their product is above the root of the modulus
pub modulus_is_prime : IsPrime MODULUS
unfolding IsDistinct
modulus_is_prime =
    pocklington MODULUS (61 ∷ 151 ∷ 331 ∷ 1321 ∷ []) (lit< tt)
    ((refl, (refl, (refl, tt))), ((refl, (refl, tt)), ((refl, tt), (tt, tt))))
    (search (All-nil, All-cons, witness_61, witness_151, witness_331, witness_1321))
    (lit< tt)
