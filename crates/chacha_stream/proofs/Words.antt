-- The steps of the keystream.
use Rattle.std.proofs.Common.{◌≡◌, ◌∙◌, ℕ, suc, ◌+◌, ◌-◌, ◌*◌, ◌/◌, ◌%◌, ◌^◌, ◌<◌, ◌≤◌, List, [], ◌∷◌, ◌++◌, length, map, take, drop, get_or, slice_index, refl, ap, ap₂, sym, arith, add_assoc}
use Rattle.std.proofs.Math.Nat.{mod-eq_of_lt}
use Rattle.std.proofs.Math.Seq.{take-add}
use Rattle.std.proofs.lemmas.List.{length-drop, length-take-le}
use Rattle.std.specs.Int.{w32, to_le_bytes}
use Rattle.std.specs.List.{range_with_len}
use Rattle.rand_chacha.specs.ChaCha.{ChaCha, next_word, word_at, key_of}
use Rattle.chacha_stream.specs.Generator.{generator_at}
use Rattle.chacha_stream.specs.Keystream.{keystream, keystream_byte, keystream_word, stream_number, first_word, xor_bytes}
use Rattle.chacha_stream.proofs.StreamLaws.{keystream_length, split}
use Rattle.chacha_stream.proofs.Exclusive.{xored-append, xored-longer}

-- the next word of the generator, and where it is then
pub next_at : (key nonce : List ℕ) (counter i r : ℕ) (g next : ChaCha)
    → g ≡ generator_at key nonce counter i → (r, next) ≡ next_word 10 g → first_word nonce counter + i < 2 ^ 68
    → (r ≡ keystream_word key nonce counter i) × (next ≡ generator_at key nonce counter (i + 1))
unfolding keystream_word
next_at key nonce counter i r g next here stepped room =
    let e : (r, next) ≡ next_word 10 (generator_at key nonce counter i) = rw here at stepped in
    let now : (first_word nonce counter + i) % 2 ^ 68 ≡ first_word nonce counter + i = mod-eq_of_lt room in
    let place : ((first_word nonce counter + i) % 2 ^ 68 + 1) % 2 ^ 68 ≡ (first_word nonce counter + (i + 1)) % 2 ^ 68 =
    ap (λ (x : ℕ). (x + 1) % 2 ^ 68) now ∙ ap (λ (x : ℕ). x % 2 ^ 68) (add_assoc (first_word nonce counter) i 1) in (
      ap (λ (p : ℕ × ChaCha). p.0) e ∙ ap (λ (x : ℕ). word_at 10 (key_of key) (stream_number nonce) x) now,
      ap (λ (p : ℕ × ChaCha). p.1) e ∙ ap (λ (w : ℕ). record (generator_at key nonce counter i) { word_pos = w }) place,
    )

-- a list whose bytes are those of f from a on
listed : (f : ℕ → ℕ) (a : ℕ) (xs : List ℕ) → ((k : ℕ) → k < length xs → get_or xs k 0 ≡ f (a + k)) → xs ≡ map f (range_with_len a (length xs))
listed f a [] each = refl
listed f a (x ∷ xs) each =
    let zeroth : a + 0 ≡ a = omega arith in
    let first : x ≡ f a = each 0 (omega arith) ∙ ap f zeroth in
    let rest : xs ≡ map f (range_with_len (a + 1) (length xs)) = listed f (a + 1) xs (λ k within.
    let place : a + suc k ≡ a + 1 + k = omega arith in
    each (suc k) (omega arith) ∙ ap f place) in
    ap₂ (λ (h : ℕ) (t : List ℕ). h ∷ t) first rest

-- the bytes of a word
pub word_bytes : (key nonce : List ℕ) (counter i : ℕ) → to_le_bytes w32 (keystream_word key nonce counter i) ≡ keystream key nonce counter (4 * i) 4
unfolding keystream keystream_byte
word_bytes key nonce counter i =
    listed (keystream_byte key nonce counter) (4 * i) (to_le_bytes w32 (keystream_word key nonce counter i)) (λ k within.
    let number : i ≡ (4 * i + k) / 4 = omega arith in
    let place : k ≡ (4 * i + k) % 4 = omega arith in
    ap₂ (λ (w b : ℕ). slice_index (to_le_bytes w32 (keystream_word key nonce counter w)) b) number place)

-- the exclusive or with a word is that with the keystream
xored_word : (key nonce : List ℕ) (counter i : ℕ) (xs : List ℕ) → length xs ≤ 4
    → xor_bytes xs (to_le_bytes w32 (keystream_word key nonce counter i)) ≡ xor_bytes xs (keystream key nonce counter (4 * i) (length xs))
xored_word key nonce counter i xs short =
    let n : ℕ = length xs in
    let whole : 4 ≡ n + (4 - n) = omega arith in
    let enough : n ≤ length (keystream key nonce counter (4 * i) n) = omega (arith, keystream_length key nonce counter (4 * i) n) in
    ap (λ (ys : List ℕ). xor_bytes xs ys) (word_bytes key nonce counter i
    ∙ ap (λ (m : ℕ). keystream key nonce counter (4 * i) m) whole
    ∙ split key nonce counter (4 * i) n (4 - n))
    ∙ xored-longer xs (keystream key nonce counter (4 * i) n) (keystream key nonce counter (4 * i + n) (4 - n)) enough

-- the first bytes done, and n more
pub more_done : (key nonce : List ℕ) (counter i n : ℕ) (old bytes piece : List ℕ)
    → take (4 * i) bytes ≡ xor_bytes (take (4 * i) old) (keystream key nonce counter 0 (4 * i)) → drop (4 * i) bytes ≡ drop (4 * i) old
    → piece ≡ xor_bytes (take n (drop (4 * i) bytes)) (to_le_bytes w32 (keystream_word key nonce counter i)) → n ≤ 4 → 4 * i + n ≤ length old
    → take (4 * i) bytes ++ piece ≡ xor_bytes (take (4 * i + n) old) (keystream key nonce counter 0 (4 * i + n))
more_done key nonce counter i n old bytes piece done rest piece_is short within =
    let part : List ℕ = take n (drop (4 * i) old) in
    let left : length (drop (4 * i) old) ≡ length old - 4 * i = length-drop (4 * i) old in
    let long : length part ≡ n = length-take-le n (drop (4 * i) old) (omega (arith, left)) in
    let front : length (take (4 * i) old) ≡ 4 * i = length-take-le (4 * i) old (omega arith) in
    let now : piece ≡ xor_bytes part (keystream key nonce counter (4 * i) n) =
    piece_is
    ∙ ap (λ (r : List ℕ). xor_bytes (take n r) (to_le_bytes w32 (keystream_word key nonce counter i))) rest
    ∙ xored_word key nonce counter i part (omega (arith, long))
    ∙ ap (λ (m : ℕ). xor_bytes part (keystream key nonce counter (4 * i) m)) long in
    let zeroth : 0 + 4 * i ≡ 4 * i = omega arith in
    let stream : keystream key nonce counter 0 (4 * i + n) ≡ keystream key nonce counter 0 (4 * i) ++ keystream key nonce counter (4 * i) n =
    split key nonce counter 0 (4 * i) n ∙ ap (λ (a : ℕ). keystream key nonce counter 0 (4 * i) ++ keystream key nonce counter a n) zeroth in
    let same : length (keystream key nonce counter 0 (4 * i)) ≡ length (take (4 * i) old) = keystream_length key nonce counter 0 (4 * i) ∙ sym front in
    ap₂ (λ (xs ys : List ℕ). xs ++ ys) done now
    ∙ sym (xored-append (take (4 * i) old) part (keystream key nonce counter 0 (4 * i)) (keystream key nonce counter (4 * i) n) same)
    ∙ sym (ap₂ (λ (xs ys : List ℕ). xor_bytes xs ys) (take-add (4 * i) n old) stream)
