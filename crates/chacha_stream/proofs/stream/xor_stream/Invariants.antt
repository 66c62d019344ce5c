use Rattle.std.proofs.Common.{◌≡◌, ◌*◌, take, drop}
use Rattle.chacha_stream.specs.Generator.{generator_at}
use Rattle.chacha_stream.specs.Keystream.{keystream, xor_bytes}
use Rattle.chacha_stream.proofs.stream.xor_stream.Given as goal

abbrev pub invariant-words : goal.invariant-words
invariant-words l = record {
  at : l.words ≡ generator_at l.key l.nonce l.counter l.number;
  done : take (4 * l.number) l.bytes ≡ xor_bytes (take (4 * l.number) l.initial.bytes) (keystream l.key l.nonce l.counter 0 (4 * l.number));
  rest : drop (4 * l.number) l.bytes ≡ drop (4 * l.number) l.initial.bytes;
}
