use Rattle.std.proofs.Common.{◌≡◌, take, vec_capacity, vec_len}
use Rattle.shamir_limbs.specs.KeyLine.{xs_of}
use Rattle.shamir_limbs.proofs.limb_work.fill_xs.Given as goal

abbrev pub invariant-loop-i : goal.invariant-loop-i
invariant-loop-i l = record { items : l.xs.items ≡ xs_of (take l.i l.points); len : vec_len l.xs ≡ l.i; capacity : vec_capacity l.xs ≡ vec_capacity l.fn.xs }
