-- What is derived from a context: by SHA-256 (FIPS 180-4) under the label of its version, and by keystreams of ChaCha20 (RFC 8439).
use Rattle.std.specs.Prelude.{◌≡◌, ℕ, ◌+◌, ◌-◌, ◌*◌, ◌%◌, ◌^◌, List, [], ◌∷◌, ◌++◌, length, map, replicate, slice_index, take, codes, ◌&&◌, if◌then◌else◌, Option, Some, None}
use Rattle.std.specs.Str.{bytes_eq}
use Rattle.std.specs.Int.{w8, w16, w32, to_be_bytes}
use Rattle.std.specs.List.{range_with_len}
use Rattle.sha2.specs.Sha256.{sha256}
use Rattle.byteorder.specs.Endian.{big_number}
use Rattle.chacha_stream.specs.Keystream.{keystream, xor_bytes}
use Rattle.field61.specs.declared.TheConstants.{MODULUS}
use Rattle.report_frame.specs.declared.version.Version.{Version}
use Rattle.report_frame.specs.declared.version.Version.TheVariants.{One, Two}
use Rattle.report_frame.specs.declared.head.Head.{Head}
use Rattle.shamir_limbs.specs.Coefficients.{values}
use Rattle.shamir_limbs.specs.Limbs.{limbs}
use Rattle.shamir_limbs.specs.declared.key.Key.{Key}
use Rattle.adss_commit.specs.declared.context.Context.{Context}
use Rattle.adss_commit.specs.declared.context.Derived.{Derived}

-- what each hash of a version begins with
abbrev pub label : Version → List ℕ
label One = codes "STARNEST"
label Two = codes "STARNES2"

-- the hash of a text under a label and the byte of a kind
unfoldable pub hashed : List ℕ → ℕ → List ℕ → List ℕ
hashed label kind text = sha256 (label ++ kind ∷ text)

-- a context, spelled; its version is in the label alone
unfoldable pub context_bytes : Context → List ℕ
context_bytes c =
    c.parent ++ to_be_bytes w32 c.epoch ++ to_be_bytes w8 c.level ++ to_be_bytes w16 c.k ++ to_be_bytes w8 (length c.value) ++ c.value

abbrev pub context_key : Context → List ℕ
context_key c = take 16 (hashed (label c.version) 1 (context_bytes c))

abbrev pub context_tag : Context → List ℕ
context_tag c = take 16 (hashed (label c.version) 2 (context_bytes c))

abbrev pub context_check : Context → List ℕ
context_check c = hashed (label c.version) 3 (context_bytes c)

-- the key of the keystream that the coefficients are taken from
abbrev pub coin_key : Context → List ℕ
coin_key c = hashed (label c.version) 5 (context_bytes c)

abbrev pub box_key_of : Version → List ℕ → List ℕ
box_key_of version key = hashed (label version) 6 key

abbrev pub body_key_of : Version → List ℕ → List ℕ
body_key_of version key = hashed (label version) 7 key

abbrev pub seal_key_of : Version → List ℕ → List ℕ
seal_key_of version key = hashed (label version) 8 key

-- twelve zero bytes
abbrev pub zero_nonce : List ℕ
zero_nonce = replicate 12 0

-- the value under the keystream of the box key
abbrev pub box_of : Version → List ℕ → List ℕ → List ℕ
box_of version key value = xor_bytes value (keystream (box_key_of version key) zero_nonce 0 0 (length value))

-- the number of 8 bytes at this place of a key's keystream, cut to 61 bits; the modulus counts as 0
unfoldable pub field_number : List ℕ → ℕ → ℕ
field_number key place = big_number 8 (keystream key zero_nonce 0 place 8) % 2 ^ 61 % MODULUS

-- n coefficients of polynomial j by a coin key, from that of x^(start+1) on
abbrev pub coefficients_from : List ℕ → ℕ → ℕ → ℕ → List ℕ
coefficients_from key j start n = map (λ i. field_number key (8 * (3 * i + j))) (range_with_len start n)

-- the values at x of the three polynomials with these coefficients alone, from the constant term on
abbrev pub values_from : List ℕ → ℕ → ℕ → ℕ → List ℕ
values_from key start n x =
    values (coefficients_from key 0 start n ∷ coefficients_from key 1 start n ∷ coefficients_from key 2 start n ∷ []) x

-- polynomial j: limb j of the key, and then the coefficients of x, x^2 and so on up to x^(k-1)
unfoldable pub polynomial : Context → ℕ → List ℕ
polynomial c j = slice_index (limbs (context_key c)) j ∷ coefficients_from (coin_key c) j 0 (c.k - 1)

-- the three polynomials, whose values are the shares
abbrev pub polynomials : Context → List (List ℕ)
polynomials c = polynomial c 0 ∷ polynomial c 1 ∷ polynomial c 2 ∷ []

-- key, tag and check
abbrev pub derived : Context → Derived
derived c = record { key = record { bytes = context_key c }; tag = context_tag c; check = context_check c }

-- what the reports of a context have in common
abbrev pub context_head : Context → Head
context_head c = record {
  version = c.version;
  k = c.k;
  tag = context_tag c;
  check = context_check c;
  boxed = box_of c.version (context_key c) c.value;
}

-- the context that a key and a head name at a place
abbrev pub context_named : Key → Head → List ℕ → ℕ → ℕ → Context
context_named key head parent epoch level =
    record {
      version = head.version;
      parent = parent;
      epoch = epoch;
      level = level;
      k = head.k;
      value = box_of head.version key.bytes head.boxed;
    }

-- the context that they name gives the key, the tag and the check back
abbrev pub Opens : Key → Head → List ℕ → ℕ → ℕ → Type 0
Opens key head parent epoch level =
    let c = context_named key head parent epoch level in
    (context_key c ≡ key.bytes) × (context_tag c ≡ head.tag) × (context_check c ≡ head.check)

-- the value in a head's box, if the context that they name gives the key, the tag and the check back
unfoldable pub opened_value : Key → Head → List ℕ → ℕ → ℕ → Option (List ℕ)
opened_value key head parent epoch level =
    let c = context_named key head parent epoch level in
    if bytes_eq (context_key c) key.bytes && (bytes_eq (context_tag c) head.tag && bytes_eq (context_check c) head.check) then Some c.value else None

-- a body under the keystream of a body key with its nonce; done twice it is the body again
abbrev pub body_of : List ℕ → List ℕ → List ℕ → List ℕ
body_of key nonce body = xor_bytes body (keystream key nonce 0 0 (length body))
