use Rattle.std.proofs.Common.{◌≡◌, length}
use Rattle.gao_decoder.proofs.sampling.decode_sampled.Given as goal

abbrev pub invariant-loop : goal.invariant-loop
invariant-loop l = record { scratch : l.scratch ≡ l.fn.scratch; room : length l.out ≡ length l.fn.out }
