use Rattle.std.proofs.Common.{◌≡◌, ◌≤◌, take}
use Rattle.gao_decoder.specs.Decoding.{agreement}
use Rattle.gao_decoder.proofs.choosing.agreement_of.Given as goal

abbrev pub invariant-loop-i : goal.invariant-loop-i
invariant-loop-i l = record { is : l.count ≡ agreement l.f (take l.i l.xs) (take l.i l.ys); few : l.count ≤ l.i }
