use Rattle.std.proofs.Common.{ℕ, ◌<◌, ◌≡◌, get_or}
use Rattle.field61.specs.Field.{field_power}
use Rattle.poly61.proofs.blocks.fill_powers.Given as goal

abbrev pub invariant-loop-i : goal.invariant-loop-i
invariant-loop-i l = (k : ℕ) → k < l.i → get_or l.powers k 0 ≡ field_power l.x k
