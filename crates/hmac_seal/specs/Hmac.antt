-- HMAC (RFC 2104) with SHA-256 (FIPS 180-4), whose blocks have 64 bytes.
use Rattle.std.specs.Prelude.{ℕ, ◌-◌, List, ◌++◌, length, map, replicate, bit_xor, nat_le, if◌then◌else◌}
use Rattle.sha2.specs.Sha256.{sha256}

-- a key of more than a block is hashed first
abbrev pub short_key : List ℕ → List ℕ
short_key key = if nat_le (length key) 64 then key else sha256 key

-- the key, filled up with zeros to a block
unfoldable pub block_key : List ℕ → List ℕ
block_key key = short_key key ++ replicate (64 - length (short_key key)) 0

-- the exclusive or of each byte with the pad
abbrev pub padded_with : ℕ → List ℕ → List ℕ
padded_with pad block = map (λ b. bit_xor b pad) block

-- H((K xor opad) || H((K xor ipad) || message)), with opad 0x5c and ipad 0x36
unfoldable pub hmac_sha256 : List ℕ → List ℕ → List ℕ
hmac_sha256 key message =
    sha256 (padded_with 0x5c (block_key key) ++ sha256 (padded_with 0x36 (block_key key) ++ message))
