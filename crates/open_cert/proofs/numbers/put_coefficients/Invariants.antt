use Rattle.std.proofs.Common.{◌≡◌, ◌++◌, take}
use Rattle.open_cert.proofs.numbers.put_coefficients.Given as goal

abbrev pub invariant-loop-i : goal.invariant-loop-i
invariant-loop-i l = l.numbers.items ≡ l.initial.numbers.items ++ take l.i l.polynomial
