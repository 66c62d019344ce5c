use Rattle.std.proofs.Common.{◌≡◌, length, drop}
use Rattle.poly61.specs.Poly.{SameCoefficients}
use Rattle.poly61.specs.Vanishing.{vanishing_of}
use Rattle.poly61.proofs.poly.Poly.vanishing.Given as goal

abbrev pub invariant-loop-i : goal.invariant-loop-i
invariant-loop-i l = record {
  room : length l.self ≡ length l.fn.self;
  same : SameCoefficients l.self (vanishing_of (drop l.i l.xs));
}
