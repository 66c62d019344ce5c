use Rattle.std.proofs.Common.{◌≡◌, ◌-◌, ◌%◌, ◌^◌, ◌∙◌, arith}
use Rattle.std.proofs.Math.Nat.{mod-eq_of_lt}
use Rattle.std.proofs.lemmas.Nat.{mul-mod_second}
use Rattle.field61.specs.declared.TheConstants.{MODULUS}
use Rattle.field61.specs.Field.{field_product, field_power}
use Rattle.field61.proofs.Fermat.{fermat_inverse}
use Rattle.field61.proofs.Modulus.{modulus_is_prime}
use Rattle.field61.proofs.element.Fe.inverse.Goals as goal

pub returns-else-self-eq0-clause-inverse : goal.returns-else-self-eq0-clause-inverse
unfolding field_product field_power
returns-else-self-eq0-clause-inverse c =
    let same : c.args.self % MODULUS ≡ c.args.self = mod-eq_of_lt (omega arith) in
    rw c.pow.ensures.power
    (mul-mod_second c.args.self (c.args.self ^ (MODULUS - 2)) MODULUS ∙ fermat_inverse MODULUS c.args.self modulus_is_prime (omega arith))
