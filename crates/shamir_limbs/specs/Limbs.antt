-- The three numbers that a key of 16 bytes is cut into.
use Rattle.std.specs.Prelude.{ℕ, ◌≡◌, ◌-◌, ◌^◌, ◌<◌, List, [], ◌∷◌, ◌++◌, length, replicate, slice_index, slice_range}
use Rattle.std.specs.Int.{w64, from_be_bytes, bytes_high_first}
use Rattle.star_io.specs.Bytes.{AreBytes}

-- the big-endian number of at most 8 bytes
abbrev pub big_endian : List ℕ → ℕ
big_endian bytes = from_be_bytes w64 (replicate (8 - length bytes) 0 ++ bytes)

-- the limbs of a key
abbrev pub limbs : List ℕ → List ℕ
limbs key = big_endian (slice_range key 0 6) ∷ big_endian (slice_range key 6 11) ∷ big_endian (slice_range key 11 16) ∷ []

-- the first of three numbers has at most 48 bits, and the others have at most 40
abbrev pub AreLimbs : List ℕ → Type 0
AreLimbs numbers = (slice_index numbers 0 < 2 ^ 48) × (slice_index numbers 1 < 2 ^ 40) × (slice_index numbers 2 < 2 ^ 40)

-- the bytes of the key with these limbs
abbrev pub key_bytes : List ℕ → List ℕ
key_bytes numbers = bytes_high_first 6 (slice_index numbers 0) ++ bytes_high_first 5 (slice_index numbers 1) ++ bytes_high_first 5 (slice_index numbers 2)

-- these are the bytes of a key
abbrev pub IsKey : List ℕ → Type 0
IsKey bytes = (length bytes ≡ 16) × AreBytes bytes

-- exactly one key has these limbs
abbrev pub HaveOneKey : List ℕ → Type 0
HaveOneKey numbers =
    (key : List ℕ) × (IsKey key × (limbs key ≡ numbers)) × ((other : List ℕ) → IsKey other → limbs other ≡ numbers → other ≡ key)
