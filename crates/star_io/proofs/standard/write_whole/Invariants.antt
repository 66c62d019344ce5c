use Rattle.std.proofs.Common.{◌≡◌, ℕ, drop, take, length}
use Rattle.std.specs.Io.KnownBytes.{Appends}
use Rattle.star_io.proofs.standard.write_whole.Given as goal

abbrev pub invariant-loop-rest : goal.invariant-loop-rest
invariant-loop-rest g l = (n : ℕ) × (l.rest ≡ drop n l.piece) × Appends (g.W.Write.contents l.initial.writer) (g.W.Write.contents l.writer) (take n l.piece)

abbrev pub decreases-loop-rest : goal.decreases-loop-rest
decreases-loop-rest g l = length l.rest
