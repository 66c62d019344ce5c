-- Numbers of each size, and their bytes.
use Rattle.std.proofs.Common.{◌≡◌, ℕ, ◌^◌, ◌<◌, List, [], ◌∷◌, length, refl, ap, arith}
use Rattle.std.specs.Int.{w8, to_be_bytes, from_be_bytes}
use Rattle.std.proofs.lemmas.Nat.{be_bytes_2, be_bytes_4, be_bytes_8, from_be_bytes-to_be_bytes_2, from_be_bytes-to_be_bytes_4, from_be_bytes-to_be_bytes_8}
use Rattle.star_io.specs.Bytes.{AreBytes}
use Rattle.star_io.proofs.ByteLists.{AreBytes-get_or}
use Rattle.byte_format.specs.Format.{Size, width, bytes_of, number_of}
use Rattle.byte_format.specs.Format.Size.{OneByte, TwoBytes, FourBytes, EightBytes}

-- the first number that is too big for a size
abbrev pub limit_of : Size → ℕ
limit_of OneByte = 2 ^ 8
limit_of TwoBytes = 2 ^ 16
limit_of FourBytes = 2 ^ 32
limit_of EightBytes = 2 ^ 64

spelling_of_byte : (bytes : List ℕ) → length bytes ≡ 1 → AreBytes bytes → to_be_bytes w8 (from_be_bytes w8 bytes) ≡ bytes
spelling_of_byte [] one are_bytes = absurd (omega arith)
spelling_of_byte (b ∷ []) one are_bytes = ap (λ (n : ℕ). n ∷ []) (omega (arith, AreBytes-get_or (b ∷ []) 0 are_bytes))
spelling_of_byte (b ∷ c ∷ bs) one are_bytes = absurd (omega arith)

-- bytes are the spelling of the number that they spell
pub spelling_of_number : (size : Size) (bytes : List ℕ) → length bytes ≡ bytes_of size → AreBytes bytes
    → to_be_bytes (width size) (number_of size bytes) ≡ bytes
spelling_of_number OneByte bytes whole are_bytes = spelling_of_byte bytes whole are_bytes
spelling_of_number TwoBytes bytes whole are_bytes = be_bytes_2 bytes _ whole (λ i. AreBytes-get_or bytes i are_bytes) refl
spelling_of_number FourBytes bytes whole are_bytes = be_bytes_4 bytes _ whole (λ i. AreBytes-get_or bytes i are_bytes) refl
spelling_of_number EightBytes bytes whole are_bytes = be_bytes_8 bytes _ whole (λ i. AreBytes-get_or bytes i are_bytes) refl

-- a number is the one that its spelling spells
pub number_of_spelling : (size : Size) (n : ℕ) → n < limit_of size → number_of size (to_be_bytes (width size) n) ≡ n
number_of_spelling OneByte n below = omega arith
number_of_spelling TwoBytes n below = from_be_bytes-to_be_bytes_2 n below
number_of_spelling FourBytes n below = from_be_bytes-to_be_bytes_4 n below
number_of_spelling EightBytes n below = from_be_bytes-to_be_bytes_8 n below

pub length_of_spelling : (size : Size) (n : ℕ) → length (to_be_bytes (width size) n) ≡ bytes_of size
length_of_spelling OneByte n = refl
length_of_spelling TwoBytes n = refl
length_of_spelling FourBytes n = refl
length_of_spelling EightBytes n = refl
