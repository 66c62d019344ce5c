-- Numbers of 8 bytes in a keystream, and a part of it that was drawn over zeros.
use Rattle.std.proofs.Common.{◌≡◌, ◌∙◌, ◌<◌, ◌≤◌, ℕ, zero, suc, ◌+◌, ◌*◌, ◌^◌, List, ◌++◌, length, take, drop, replicate, slice_index, refl, ap, ap₂, sym, arith}
use Rattle.std.proofs.lemmas.List.{get_or-drop, get_or-take, take_at, take_all, take-replicate}
use Rattle.byteorder.specs.Endian.{big_from, big_number}
use Rattle.chacha_stream.specs.Keystream.{keystream, keystream_byte, xor_bytes}
use Rattle.chacha_stream.proofs.StreamLaws.{get_or-keystream, keystream_length, keystream_from_zeros}

-- a number depends on its bytes alone
big_from-same : (i n : ℕ) (xs ys : List ℕ) → ((j : ℕ) → j < i + n → slice_index xs j ≡ slice_index ys j) → big_from i n xs ≡ big_from i n ys
big_from-same i zero xs ys same = refl
big_from-same i (suc n) xs ys same =
    ap₂ (λ (a b : ℕ). a * 256 ^ n + b) (same i (omega arith)) (big_from-same (suc i) n xs ys (λ j within. same j (omega arith)))

-- the number at a place of bytes that begin with n bytes of the keystream, from byte `from` on
pub number-in_part : (key nonce bytes : List ℕ) (from n place : ℕ) → take n bytes ≡ keystream key nonce 0 from n → place + 8 ≤ n
    → big_number 8 (drop place bytes) ≡ big_number 8 (keystream key nonce 0 (from + place) 8)
number-in_part key nonce bytes from n place drawn within =
    big_from-same 0 8 (drop place bytes) (keystream key nonce 0 (from + place) 8)
    (λ j below.
    let there : from + (place + j) ≡ from + place + j = omega arith in
    get_or-drop place bytes j 0
    ∙ sym (get_or-take n bytes (place + j) 0 (omega arith))
    ∙ ap (λ (l : List ℕ). slice_index l (place + j)) drawn
    ∙ get_or-keystream key nonce 0 from n (place + j) (omega arith)
    ∙ ap (λ (p : ℕ). keystream_byte key nonce 0 p) there
    ∙ sym (get_or-keystream key nonce 0 (from + place) 8 j (omega arith)))

-- the number at a place of the first n bytes
pub number-at_place : (key nonce : List ℕ) (n place : ℕ) → place + 8 ≤ n → big_number 8 (drop place (keystream key nonce 0 0 n)) ≡ big_number 8 (keystream key nonce 0 place 8)
number-at_place key nonce n place within =
    let from_start : 0 + place ≡ place = omega arith in
    number-in_part key nonce (keystream key nonce 0 0 n) 0 n place (take_all n (keystream key nonce 0 0 n) (omega (arith, keystream_length key nonce 0 0 n))) within
    ∙ ap (λ (p : ℕ). big_number 8 (keystream key nonce 0 p 8)) from_start

-- zeros of which the first n became a keystream begin with it
pub front_drawn : (key nonce : List ℕ) (counter n m : ℕ) (zeros new : List ℕ) → n ≤ m → zeros ≡ replicate m 0
    → new ≡ xor_bytes (take n zeros) (keystream key nonce counter 0 (length (take n zeros))) → take n (new ++ drop n zeros) ≡ keystream key nonce counter 0 n
front_drawn key nonce counter n m zeros new few are_zeros is =
    let front : take n zeros ≡ replicate n 0 = ap (take n) are_zeros ∙ take-replicate n m 0 few in
    let drawn : new ≡ keystream key nonce counter 0 n = keystream_from_zeros key nonce counter n (take n zeros) new front is in
    take_at new (drop n zeros) n (ap length drawn ∙ keystream_length key nonce counter 0 n) ∙ drawn
