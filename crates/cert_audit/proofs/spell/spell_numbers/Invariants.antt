use Rattle.std.proofs.Common.{◌≡◌, ◌++◌, take}
use Rattle.cert_audit.specs.Certificate.{number_bytes}
use Rattle.cert_audit.proofs.spell.spell_numbers.Given as goal

abbrev pub invariant-loop-number : goal.invariant-loop-number
invariant-loop-number l = l.bytes.items ≡ l.fn.bytes.items ++ number_bytes (take l.number-index l.numbers)
