-- The vectors of the self test: what the definitions give, and what a standard states or can be seen without computing.
use Rattle.std.specs.Prelude.{ℕ, ◌-◌, List, [], ◌∷◌, ◌++◌, length, replicate, codes, unwrap_or}
use Rattle.std.specs.Int.{w64, to_be_bytes}
use Rattle.std.specs.List.{flat_map, range_with_len}
use Rattle.sha2.specs.Sha256.{sha256}
use Rattle.hmac_seal.specs.Hmac.{hmac_sha256}
use Rattle.chacha_stream.specs.Keystream.{keystream}
use Rattle.gao_decoder.specs.Search.{decoding_of}
use Rattle.shamir_limbs.specs.Limbs.{limbs}
use Rattle.star_vectors.specs.declared.vectors.Vector.{Vector}

-- the bytes, filled up with zeros to 32
abbrev pub filled_up : List ℕ → List ℕ
filled_up bytes = bytes ++ replicate (32 - length bytes) 0

-- the numbers, each as 8 big-endian bytes
abbrev pub spelled : List ℕ → List ℕ
spelled numbers = flat_map (to_be_bytes w64) numbers

-- SHA-256 of the text abc (FIPS 180-4)
unfoldable pub sha256_abc : Vector
sha256_abc = record {
  number = 1;
  got = sha256 (codes "abc");
  wanted =
      0xba ∷ 0x78 ∷ 0x16 ∷ 0xbf ∷ 0x8f ∷ 0x01 ∷ 0xcf ∷ 0xea ∷ 0x41 ∷ 0x41 ∷ 0x40 ∷ 0xde ∷ 0x5d ∷ 0xae ∷ 0x22 ∷ 0x23 ∷
      0xb0 ∷ 0x03 ∷ 0x61 ∷ 0xa3 ∷ 0x96 ∷ 0x17 ∷ 0x7a ∷ 0x9c ∷ 0xb4 ∷ 0x10 ∷ 0xff ∷ 0x61 ∷ 0xf2 ∷ 0x00 ∷ 0x15 ∷ 0xad ∷ [];
}

-- HMAC-SHA-256, case 1 of RFC 4231
unfoldable pub hmac_case_1 : Vector
hmac_case_1 = record {
  number = 2;
  got = hmac_sha256 (replicate 20 0x0b) (codes "Hi There");
  wanted =
      0xb0 ∷ 0x34 ∷ 0x4c ∷ 0x61 ∷ 0xd8 ∷ 0xdb ∷ 0x38 ∷ 0x53 ∷ 0x5c ∷ 0xa8 ∷ 0xaf ∷ 0xce ∷ 0xaf ∷ 0x0b ∷ 0xf1 ∷ 0x2b ∷
      0x88 ∷ 0x1d ∷ 0xc2 ∷ 0x00 ∷ 0xc9 ∷ 0x83 ∷ 0x3d ∷ 0xa7 ∷ 0x26 ∷ 0xe9 ∷ 0x37 ∷ 0x6c ∷ 0x2e ∷ 0x32 ∷ 0xcf ∷ 0xf7 ∷ [];
}

-- HMAC-SHA-256, case 2 of RFC 4231
unfoldable pub hmac_case_2 : Vector
hmac_case_2 = record {
  number = 3;
  got = hmac_sha256 (codes "Jefe") (codes "what do ya want for nothing?");
  wanted =
      0x5b ∷ 0xdc ∷ 0xc1 ∷ 0x46 ∷ 0xbf ∷ 0x60 ∷ 0x75 ∷ 0x4e ∷ 0x6a ∷ 0x04 ∷ 0x24 ∷ 0x26 ∷ 0x08 ∷ 0x95 ∷ 0x75 ∷ 0xc7 ∷
      0x5a ∷ 0x00 ∷ 0x3f ∷ 0x08 ∷ 0x9d ∷ 0x27 ∷ 0x39 ∷ 0x83 ∷ 0x9d ∷ 0xec ∷ 0x58 ∷ 0xb9 ∷ 0x64 ∷ 0xec ∷ 0x38 ∷ 0x43 ∷ [];
}

-- the first 16 bytes of the block of RFC 8439, 2.3.2: the key 0, 1, .. 31, and block 1
unfoldable pub keystream_block : Vector
keystream_block = record {
  number = 4;
  got = filled_up (keystream (range_with_len 0 32) (0 ∷ 0 ∷ 0 ∷ 9 ∷ 0 ∷ 0 ∷ 0 ∷ 0x4a ∷ 0 ∷ 0 ∷ 0 ∷ 0 ∷ []) 1 0 16);
  wanted = filled_up
      (0x10 ∷ 0xf1 ∷ 0xe7 ∷ 0xe4 ∷ 0xd1 ∷ 0x3b ∷ 0x59 ∷ 0x15 ∷ 0x50 ∷ 0x0f ∷ 0xdd ∷ 0x1f ∷ 0xa3 ∷ 0x20 ∷ 0x71 ∷ 0xc4 ∷ []);
}

-- the first 20 bytes of vector 1 of RFC 8439, A.1: key and nonce zero, and block 0
unfoldable pub keystream_of_zeros : Vector
keystream_of_zeros = record {
  number = 5;
  got = filled_up (keystream (replicate 32 0) (replicate 12 0) 0 0 20);
  wanted = filled_up
      (0x76 ∷ 0xb8 ∷ 0xe0 ∷ 0xad ∷ 0xa0 ∷ 0xf1 ∷ 0x3d ∷ 0x90 ∷ 0x40 ∷ 0x5d ∷ 0x6a ∷ 0xe5 ∷ 0x53 ∷ 0x86 ∷ 0xbd ∷ 0x28 ∷
      0xbd ∷ 0xd2 ∷ 0x19 ∷ 0xb8 ∷ []);
}

-- the limbs of the key 0, 1, .. 15
unfoldable pub key_limbs : Vector
key_limbs = record {
  number = 6;
  got = filled_up (spelled (limbs (range_with_len 0 16)));
  wanted = filled_up
      (0 ∷ 0 ∷ 0 ∷ 0x01 ∷ 0x02 ∷ 0x03 ∷ 0x04 ∷ 0x05 ∷ 0 ∷ 0 ∷ 0 ∷ 0x06 ∷ 0x07 ∷ 0x08 ∷ 0x09 ∷ 0x0a ∷
      0 ∷ 0 ∷ 0 ∷ 0x0b ∷ 0x0c ∷ 0x0d ∷ 0x0e ∷ 0x0f ∷ []);
}

-- what decoding with k = 2 gives for the points (1, 5), (2, 7), (3, 9) and (4, 100): the line 3 + 2x, on all but the last
unfoldable pub decoded_line : Vector
decoded_line = record {
  number = 7;
  got = filled_up (spelled (unwrap_or (decoding_of (1 ∷ 2 ∷ 3 ∷ 4 ∷ []) (5 ∷ 7 ∷ 9 ∷ 100 ∷ []) 2) []));
  wanted = filled_up (0 ∷ 0 ∷ 0 ∷ 0 ∷ 0 ∷ 0 ∷ 0 ∷ 3 ∷ 0 ∷ 0 ∷ 0 ∷ 0 ∷ 0 ∷ 0 ∷ 0 ∷ 2 ∷ []);
}

-- all vectors, in order
unfoldable pub vectors : List Vector
vectors = sha256_abc ∷ hmac_case_1 ∷ hmac_case_2 ∷ keystream_block ∷ keystream_of_zeros ∷ key_limbs ∷ decoded_line ∷ []
