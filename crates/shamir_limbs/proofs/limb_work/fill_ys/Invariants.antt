use Rattle.std.proofs.Common.{◌≡◌, take, vec_capacity, vec_len}
use Rattle.shamir_limbs.specs.KeyLine.{ys_of}
use Rattle.shamir_limbs.proofs.limb_work.fill_ys.Given as goal

abbrev pub invariant-loop-i : goal.invariant-loop-i
invariant-loop-i l = record { items : l.ys.items ≡ ys_of (take l.i l.points) l.limb; len : vec_len l.ys ≡ l.i; capacity : vec_capacity l.ys ≡ vec_capacity l.fn.ys }
