use Rattle.std.proofs.Common.{ℕ, ◌<◌, ◌≤◌, ◌≡◌, get_or, length}
use Rattle.shamir_limbs.specs.KeyLine.{xs_of}
use Rattle.shamir_limbs.proofs.limb_work.take_near.Given as goal

abbrev pub invariant-loop-i : goal.invariant-loop-i
invariant-loop-i l = record {
  distinct : (a b : ℕ) → a < b → b < l.taken → get_or l.near_xs a 0 ≡ get_or l.near_xs b 0 → ⊥;
  ahead : (a b : ℕ) → a < l.taken → l.i ≤ b → b < length l.points → get_or l.near_xs a 0 ≡ get_or (xs_of l.points) b 0 → ⊥;
  few : l.taken ≤ length l.near_xs;
}
