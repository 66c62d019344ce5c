-- Laws of the keystream, for the crates above.
use Rattle.std.proofs.Common.{◌≡◌, ◌∙◌, ℕ, zero, suc, ◌+◌, ◌*◌, ◌/◌, ◌%◌, ◌<◌, List, [], ◌∷◌, ◌++◌, length, map, replicate, get_or, slice_index, bit_xor, refl, ap, ap₂, sym, arith}
use Rattle.std.specs.Int.{w32, to_le_bytes}
use Rattle.std.specs.Int.Bits.{xor_assoc, xor_self, xor_zero_l, xor_zero_r}
use Rattle.std.specs.List.{range_with_len}
use Rattle.std.proofs.lemmas.List.{length-replicate}
use Rattle.std.proofs.lemmas.List.FromFn.{length-map-range_with_len, get_or-map-range_with_len}
use Rattle.rand_chacha.specs.ChaCha.{key_of, word_at}
use Rattle.chacha_stream.specs.Keystream.{keystream, keystream_byte, keystream_word, stream_number, first_word, xor_bytes}

pub keystream_length : (key nonce : List ℕ) (counter start n : ℕ) → length (keystream key nonce counter start n) ≡ n
unfolding keystream
keystream_length key nonce counter start n = length-map-range_with_len (keystream_byte key nonce counter) start n

pub get_or-keystream : (key nonce : List ℕ) (counter start n j : ℕ) → j < n → get_or (keystream key nonce counter start n) j 0 ≡ keystream_byte key nonce counter (start + j)
unfolding keystream
get_or-keystream key nonce counter start n j within = get_or-map-range_with_len (keystream_byte key nonce counter) start n j (start + j) 0 within refl

-- the exclusive or is as long as its first list
pub same_length : (bytes stream : List ℕ) → length (xor_bytes bytes stream) ≡ length bytes
unfolding xor_bytes
same_length [] ys = refl
same_length (x ∷ xs) [] = let e = same_length xs [] in omega (arith, e)
same_length (x ∷ xs) (y ∷ ys) = let e = same_length xs ys in omega (arith, e)

bit_xor-twice : (x y : ℕ) → bit_xor (bit_xor x y) y ≡ x
bit_xor-twice x y = xor_assoc x y y ∙ ap (λ (z : ℕ). bit_xor x z) (xor_self y) ∙ xor_zero_r x

-- done twice with one list, the exclusive or gives the bytes back
pub twice : (bytes stream : List ℕ) → xor_bytes (xor_bytes bytes stream) stream ≡ bytes
unfolding xor_bytes
twice [] ys = refl
twice (x ∷ xs) [] = ap (λ (t : List ℕ). x ∷ t) (twice xs [])
twice (x ∷ xs) (y ∷ ys) =
    ap (λ (h : ℕ). h ∷ xor_bytes (xor_bytes xs ys) ys) (bit_xor-twice x y) ∙ ap (λ (t : List ℕ). x ∷ t) (twice xs ys)

-- over zeros the exclusive or gives the second list
pub xor_bytes-zeros : (n : ℕ) (ys : List ℕ) → length ys ≡ n → xor_bytes (replicate n 0) ys ≡ ys
unfolding xor_bytes
xor_bytes-zeros zero [] len = refl
xor_bytes-zeros zero (y ∷ ys) len = absurd (omega arith)
xor_bytes-zeros (suc n) [] len = absurd (omega arith)
xor_bytes-zeros (suc n) (y ∷ ys) len = ap₂ (λ (h : ℕ) (t : List ℕ). h ∷ t) (xor_zero_l y) (xor_bytes-zeros n ys (omega arith))

pub over_zeros : (key nonce : List ℕ) (counter start n : ℕ) → xor_bytes (replicate n 0) (keystream key nonce counter start n) ≡ keystream key nonce counter start n
over_zeros key nonce counter start n = xor_bytes-zeros n (keystream key nonce counter start n) (keystream_length key nonce counter start n)

-- what bytes become that were zeros
pub keystream_from_zeros : (key nonce : List ℕ) (counter n : ℕ) (old new : List ℕ) → old ≡ replicate n 0
    → new ≡ xor_bytes old (keystream key nonce counter 0 (length old)) → new ≡ keystream key nonce counter 0 n
keystream_from_zeros key nonce counter n old new zeros is =
    let long : length old ≡ n = ap length zeros ∙ length-replicate n 0 in
    is
    ∙ ap₂ (λ (xs : List ℕ) (m : ℕ). xor_bytes xs (keystream key nonce counter 0 m)) zeros long
    ∙ over_zeros key nonce counter 0 n

-- byte j from block counter + blocks is byte 64 blocks + j from block counter
pub keystream_byte-block : (key nonce : List ℕ) (counter blocks j : ℕ) → keystream_byte key nonce (counter + blocks) j ≡ keystream_byte key nonce counter (64 * blocks + j)
unfolding keystream_byte keystream_word first_word
keystream_byte-block key nonce counter blocks j =
    let word : (64 * blocks + j) / 4 ≡ 16 * blocks + j / 4 = omega arith in
    let byte : (64 * blocks + j) % 4 ≡ j % 4 = omega arith in
    let place : (n : ℕ) → 16 * (counter + blocks + n) + j / 4 ≡ 16 * (counter + n) + (64 * blocks + j) / 4 = λ n. omega arith in
    ap₂ (λ (w b : ℕ). slice_index (to_le_bytes w32 (word_at 10 (key_of key) (stream_number nonce) w)) b) (place _) (sym byte)

-- a range of one function is a range of another that has its values at moved places
map-moved : (f g : ℕ → ℕ) (a b n : ℕ) → ((k : ℕ) → f (a + k) ≡ g (b + k)) → map f (range_with_len a n) ≡ map g (range_with_len b n)
map-moved f g a b zero same = refl
map-moved f g a b (suc n) same =
    let a_is : a + 0 ≡ a = omega arith in
    let b_is : b + 0 ≡ b = omega arith in
    let first : f a ≡ g b = ap f (sym a_is) ∙ same 0 ∙ ap g b_is in
    let rest : map f (range_with_len (a + 1) n) ≡ map g (range_with_len (b + 1) n) =
    map-moved f g (a + 1) (b + 1) n (λ k.
    let from_a : a + 1 + k ≡ a + (k + 1) = omega arith in
    let from_b : b + (k + 1) ≡ b + 1 + k = omega arith in
    ap f from_a ∙ same (k + 1) ∙ ap g from_b) in
    ap₂ (λ (h : ℕ) (t : List ℕ). h ∷ t) first rest

-- the keystream from a later block is the keystream from further on
pub later_block : (key nonce : List ℕ) (counter blocks start n : ℕ) → keystream key nonce (counter + blocks) start n ≡ keystream key nonce counter (64 * blocks + start) n
unfolding keystream
later_block key nonce counter blocks start n =
    map-moved (keystream_byte key nonce (counter + blocks)) (keystream_byte key nonce counter) start (64 * blocks + start) n
    (λ k.
    let place : 64 * blocks + (start + k) ≡ 64 * blocks + start + k = omega arith in
    keystream_byte-block key nonce counter blocks (start + k) ∙ ap (keystream_byte key nonce counter) place)

map-range-split : (f : ℕ → ℕ) (a m n : ℕ) → map f (range_with_len a (m + n)) ≡ map f (range_with_len a m) ++ map f (range_with_len (a + m) n)
map-range-split f a zero n =
    let count : 0 + n ≡ n = omega arith in
    let place : a ≡ a + 0 = omega arith in
    ap₂ (λ (b k : ℕ). map f (range_with_len b k)) place count
map-range-split f a (suc m) n =
    let count : suc m + n ≡ suc (m + n) = omega arith in
    let place : a + 1 + m ≡ a + suc m = omega arith in
    ap (λ (k : ℕ). map f (range_with_len a k)) count
    ∙ ap (λ (t : List ℕ). f a ∷ t) (map-range-split f (a + 1) m n
    ∙ ap (λ (b : ℕ). map f (range_with_len (a + 1) m) ++ map f (range_with_len b n)) place)

-- the keystream, split at any byte
pub split : (key nonce : List ℕ) (counter start m n : ℕ) → keystream key nonce counter start (m + n) ≡ keystream key nonce counter start m ++ keystream key nonce counter (start + m) n
unfolding keystream
split key nonce counter start m n = map-range-split (keystream_byte key nonce counter) start m n
