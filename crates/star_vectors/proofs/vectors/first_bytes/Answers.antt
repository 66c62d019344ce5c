use Rattle.std.proofs.Common.{refl}
use Rattle.star_vectors.proofs.Filling.{front_of_zeros}
use Rattle.star_vectors.proofs.vectors.first_bytes.Goals as goal

pub returns : goal.returns
returns c = front_of_zeros c.args.key.now c.args.nonce.now c.args.counter c.args.length _ c.xor_stream.new.bytes c.requires.fits refl c.xor_stream.ensures
