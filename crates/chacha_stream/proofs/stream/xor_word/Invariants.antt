use Rattle.std.proofs.Common.{◌≡◌, ◌<◌, ◌≤◌, ℕ, get_or, bit_xor}
use Rattle.chacha_stream.proofs.stream.xor_word.Given as goal

abbrev pub invariant-bytes : goal.invariant-bytes
invariant-bytes l = record {
  done : (k : ℕ) → k < l.place → get_or l.bytes k 0 ≡ bit_xor (get_or l.initial.bytes k 0) (get_or l.word k 0);
  rest : (k : ℕ) → l.place ≤ k → get_or l.bytes k 0 ≡ get_or l.initial.bytes k 0;
}
