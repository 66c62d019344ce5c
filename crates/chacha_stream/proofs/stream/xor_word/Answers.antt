use Rattle.std.proofs.Common.{arith}
use Rattle.chacha_stream.proofs.Exclusive.{xored_is}
use Rattle.chacha_stream.proofs.stream.xor_word.Goals as goal

pub returns : goal.returns
returns c = xored_is c.args.bytes.now c.args.word.now c.bytes.bytes (omega arith) (omega arith) (λ k within. c.bytes.invariant.done k (omega arith))
