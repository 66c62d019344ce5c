-- The generator of rand_chacha on its way through a keystream.
use Rattle.std.specs.Prelude.{ℕ, ◌+◌, ◌%◌, ◌^◌, List}
use Rattle.rand_chacha.specs.ChaCha.{ChaCha, key_of}
use Rattle.chacha_stream.specs.Keystream.{stream_number, first_word}

-- the generator that gives word i of the keystream next; after the last of its 2 ^ 68 words its places begin again
abbrev pub generator_at : List ℕ → List ℕ → ℕ → ℕ → ChaCha
generator_at key nonce counter i = record {
  key = key_of key;
  stream = stream_number nonce;
  word_pos = (first_word nonce counter + i) % 2 ^ 68;
}
