-- The number of at most 8 bytes, and the low bytes of a number.
use Rattle.std.proofs.Common.{◌≡◌, ◌∙◌, ◌<◌, ℕ, zero, suc, ◌+◌, ◌-◌, ◌^◌, List, ◌∷◌, ◌++◌, length, get_or, drop, replicate, refl, ap, ap₂, sym, arith, length-append}
use Rattle.std.specs.Int.{w64, byte_at, bytes_high_first, from_be_bytes}
use Rattle.std.proofs.Math.Nat.{mod-lt}
use Rattle.std.proofs.lemmas.List.{length-replicate}
use Rattle.std.proofs.lemmas.List.Elements.{All-cons}
use Rattle.std.proofs.lemmas.Nat.{be_bytes_8, from_be_bytes-to_be_bytes_8}
use Rattle.star_io.specs.Bytes.{AreBytes}
use Rattle.star_io.proofs.ByteLists.{AreBytes-get_or, AreBytes-nil}
use Rattle.shamir_limbs.specs.Limbs.{big_endian}

byte_at-below : (k n : ℕ) → byte_at k n < 256
byte_at-below zero n = mod-lt n (omega arith)
byte_at-below (suc k) n = mod-lt _ (omega arith)

pub AreBytes-bytes_high_first : (k n : ℕ) → AreBytes (bytes_high_first k n)
AreBytes-bytes_high_first zero n = AreBytes-nil
AreBytes-bytes_high_first (suc k) n = All-cons (λ b. b < 2 ^ 8) (byte_at k n) (bytes_high_first k n) (byte_at-below k n) (AreBytes-bytes_high_first k n)

-- the number of its low 6 bytes
pub big_endian-low_6 : (n : ℕ) → n < 2 ^ 48 → big_endian (bytes_high_first 6 n) ≡ n
big_endian-low_6 n below =
    let seventh : byte_at 7 n ≡ 0 = omega arith in
    let sixth : byte_at 6 n ≡ 0 = omega arith in
    ap₂ (λ (a b : ℕ). from_be_bytes w64 (a ∷ b ∷ bytes_high_first 6 n)) (sym seventh) (sym sixth) ∙ from_be_bytes-to_be_bytes_8 n (omega arith)

-- the number of its low 5 bytes
pub big_endian-low_5 : (n : ℕ) → n < 2 ^ 40 → big_endian (bytes_high_first 5 n) ≡ n
big_endian-low_5 n below =
    let fifth : byte_at 5 n ≡ 0 = omega arith in
    ap (λ (a : ℕ). from_be_bytes w64 (0 ∷ 0 ∷ a ∷ bytes_high_first 5 n)) (sym fifth) ∙ big_endian-low_6 n (omega arith)

-- a number of 6 bytes has at most 48 bits
pub big_endian-below_6 : (bytes : List ℕ) → length bytes ≡ 6 → AreBytes bytes → big_endian bytes < 2 ^ 48
big_endian-below_6 bytes size h =
    let pad : 8 - length bytes ≡ 2 = omega arith in
    let padded : big_endian bytes ≡ from_be_bytes w64 (0 ∷ 0 ∷ bytes) = ap (λ (k : ℕ). from_be_bytes w64 (replicate k 0 ++ bytes)) pad in
    omega (arith, padded, AreBytes-get_or bytes 0 h, AreBytes-get_or bytes 1 h, AreBytes-get_or bytes 2 h, AreBytes-get_or bytes 3 h, AreBytes-get_or bytes 4 h, AreBytes-get_or bytes 5 h)

-- a number of 5 bytes has at most 40 bits
pub big_endian-below_5 : (bytes : List ℕ) → length bytes ≡ 5 → AreBytes bytes → big_endian bytes < 2 ^ 40
big_endian-below_5 bytes size h =
    let pad : 8 - length bytes ≡ 3 = omega arith in
    let padded : big_endian bytes ≡ from_be_bytes w64 (0 ∷ 0 ∷ 0 ∷ bytes) = ap (λ (k : ℕ). from_be_bytes w64 (replicate k 0 ++ bytes)) pad in
    omega (arith, padded, AreBytes-get_or bytes 0 h, AreBytes-get_or bytes 1 h, AreBytes-get_or bytes 2 h, AreBytes-get_or bytes 3 h, AreBytes-get_or bytes 4 h)

get_or-zeros : (n : ℕ) (bytes : List ℕ) → AreBytes bytes → (i : ℕ) → get_or (replicate n 0 ++ bytes) i 0 < 256
get_or-zeros zero bytes h i = AreBytes-get_or bytes i h
get_or-zeros (suc n) bytes h zero = omega arith
get_or-zeros (suc n) bytes h (suc i) = get_or-zeros n bytes h i

drop-zeros : (n : ℕ) (bytes : List ℕ) → drop n (replicate n 0 ++ bytes) ≡ bytes
drop-zeros zero bytes = refl
drop-zeros (suc n) bytes = drop-zeros n bytes

-- the number of some bytes has these bytes behind zeros
pub drop-big_endian : (n : ℕ) (bytes : List ℕ) → n + length bytes ≡ 8 → AreBytes bytes → drop n (bytes_high_first 8 (big_endian bytes)) ≡ bytes
drop-big_endian n bytes size h =
    let pad : 8 - length bytes ≡ n = omega arith in
    let padded : List ℕ = replicate (8 - length bytes) 0 ++ bytes in
    let long : length padded ≡ 8 = omega (arith, length-append (replicate (8 - length bytes) 0) bytes, length-replicate {A = ℕ} (8 - length bytes) 0) in
    ap (drop n) (be_bytes_8 padded _ long (get_or-zeros (8 - length bytes) bytes h) refl)
    ∙ ap (λ (k : ℕ). drop n (replicate k 0 ++ bytes)) pad ∙ drop-zeros n bytes
