-- The audit of a certificate: the polynomials are handed in, and nothing is decoded.
use Rattle.std.specs.Prelude.{ℕ, ◌+◌, ◌*◌, not, nat_lt, List, length, slice_range, Option, Some, None, if◌then◌else◌}
use Rattle.shamir_limbs.specs.declared.key.Key.{Key}
use Rattle.shamir_limbs.specs.KeyLine.{agreement_of_all, values_at_zero}
use Rattle.shamir_limbs.specs.Limbs.{key_bytes}
use Rattle.shamir_limbs.specs.Search.{are_limbs}
use Rattle.adss_commit.specs.Derivation.{opened_value}
use Rattle.cert_audit.specs.declared.cert.Cert.{Cert}
use Rattle.cert_audit.specs.declared.verdict.Verdict.{Verdict}
use Rattle.cert_audit.specs.declared.verdict.Verdict.TheVariants.{Yes, Few, Key as WrongKey, Short, Value as WrongValue}

-- polynomial j of the certificate, for j from 0 to 2
abbrev pub polynomial_of : Cert → ℕ → List ℕ
polynomial_of c j = slice_range c.numbers (j * c.head.k) ((j + 1) * c.head.k)

-- the values of its polynomials at 0
abbrev pub claimed_limbs : Cert → List ℕ
claimed_limbs c = values_at_zero (polynomial_of c 0) (polynomial_of c 1) (polynomial_of c 2)

-- the key with these limbs
abbrev pub claimed_key : Cert → Key
claimed_key c = record { bytes = key_bytes (claimed_limbs c) }

-- how many of its points lie on all three polynomials
abbrev pub agree_of : Cert → ℕ
agree_of c = agreement_of_all (polynomial_of c 0) (polynomial_of c 1) (polynomial_of c 2) c.points

-- the value that the key gives the head back with, at the certificate's place
abbrev pub claimed_value : Cert → Option (List ℕ)
claimed_value c = opened_value (claimed_key c) c.head c.parent c.epoch c.level

abbrev pub verdict_with : ℕ → Option (List ℕ) → Verdict
verdict_with agree None = WrongValue
verdict_with agree (Some value) = Yes value agree

-- the first thing that is wrong with a certificate, or its value
unfoldable pub verdict_of : Cert → Verdict
verdict_of c =
    if nat_lt (length c.points) c.head.k then Few
    else if not (are_limbs (claimed_limbs c)) then WrongKey
    else if nat_lt (2 * agree_of c) (length c.points + c.head.k) then Short (agree_of c)
    else verdict_with (agree_of c) (claimed_value c)
