-- The ChaCha20 keystream (RFC 8439, 2.3 and 2.4) as bytes, by the words of rand_chacha.
use Rattle.std.specs.Prelude.{ℕ, ◌+◌, ◌*◌, ◌/◌, ◌%◌, ◌^◌, List, [], ◌∷◌, map, bit_xor, slice_index}
use Rattle.std.specs.Int.{w32, to_le_bytes, from_le_bytes}
use Rattle.std.specs.List.{range_with_len}
use Rattle.rand_chacha.specs.ChaCha.{word_at, key_of}

-- word i of the nonce, low byte first
unfoldable pub nonce_word : List ℕ → ℕ → ℕ
nonce_word nonce i = from_le_bytes w32
    (slice_index nonce (4 * i) ∷ slice_index nonce (4 * i + 1) ∷ slice_index nonce (4 * i + 2) ∷ slice_index nonce (4 * i + 3) ∷ [])

-- the stream of rand_chacha: the last two words of the nonce
unfoldable pub stream_number : List ℕ → ℕ
stream_number nonce = nonce_word nonce 1 + 2 ^ 32 * nonce_word nonce 2

-- the place in that stream of the first word of block `counter`: the high half of the block's number is the first word of the nonce
unfoldable pub first_word : List ℕ → ℕ → ℕ
first_word nonce counter = 16 * (counter + 2 ^ 32 * nonce_word nonce 0)

-- word i of the keystream from block `counter`, after 20 rounds
unfoldable pub keystream_word : List ℕ → List ℕ → ℕ → ℕ → ℕ
keystream_word key nonce counter i = word_at 10 (key_of key) (stream_number nonce) (first_word nonce counter + i)

-- byte j of the keystream: a word has 4, low byte first
unfoldable pub keystream_byte : List ℕ → List ℕ → ℕ → ℕ → ℕ
keystream_byte key nonce counter j =
    slice_index (to_le_bytes w32 (keystream_word key nonce counter (j / 4))) (j % 4)

-- the n bytes of the keystream from byte `start` on
unfoldable pub keystream : List ℕ → List ℕ → ℕ → ℕ → ℕ → List ℕ
keystream key nonce counter start n = map (keystream_byte key nonce counter) (range_with_len start n)

-- the exclusive or of two lists, byte by byte; what the second lacks counts as zero
unfoldable pub xor_bytes : List ℕ → List ℕ → List ℕ
xor_bytes [] ys = []
xor_bytes (x ∷ xs) [] = x ∷ xor_bytes xs []
xor_bytes (x ∷ xs) (y ∷ ys) = bit_xor x y ∷ xor_bytes xs ys
