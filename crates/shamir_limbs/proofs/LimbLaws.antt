-- Laws of limbs.
use Rattle.std.proofs.Common.{◌≡◌, ◌∙◌, ℕ, List, [], ◌∷◌, ◌++◌, length, take, drop, slice_index, refl, ap, ap₂, sym, arith, append_assoc}
use Rattle.std.specs.Int.{w64, to_be_bytes, bytes_high_first}
use Rattle.std.proofs.lemmas.List.{take_all, take-append-drop, length-take, length-drop, drop-drop}
use Rattle.star_io.proofs.ByteLists.{AreBytes-take, AreBytes-drop, AreBytes-append}
use Rattle.shamir_limbs.specs.Limbs.{big_endian, limbs, key_bytes, IsKey, AreLimbs, HaveOneKey}
use Rattle.shamir_limbs.proofs.LowBytes.{AreBytes-bytes_high_first, big_endian-below_5, big_endian-below_6, big_endian-low_5, big_endian-low_6, drop-big_endian}

-- three items are the list of them
pub three_items : (xs : List ℕ) → length xs ≡ 3 → slice_index xs 0 ∷ slice_index xs 1 ∷ slice_index xs 2 ∷ [] ≡ xs
three_items [] three = absurd (omega arith)
three_items (x ∷ []) three = absurd (omega arith)
three_items (x ∷ y ∷ []) three = absurd (omega arith)
three_items (x ∷ y ∷ z ∷ []) three = refl
three_items (x ∷ y ∷ z ∷ w ∷ ws) three = absurd (omega arith)

pub limbs-key_bytes : (numbers : List ℕ) → length numbers ≡ 3 → AreLimbs numbers → limbs (key_bytes numbers) ≡ numbers
limbs-key_bytes numbers three range =
    ap₂ (λ (a b : ℕ). a ∷ b ∷ big_endian (bytes_high_first 5 (slice_index numbers 2)) ∷ [])
    (big_endian-low_6 (slice_index numbers 0) range.0) (big_endian-low_5 (slice_index numbers 1) range.1)
    ∙ ap (λ (d : ℕ). slice_index numbers 0 ∷ slice_index numbers 1 ∷ d ∷ []) (big_endian-low_5 (slice_index numbers 2) range.2)
    ∙ three_items numbers three

-- the bytes that a key takes of three numbers of 8 bytes
abbrev pub low_bytes : List ℕ → List ℕ → List ℕ → List ℕ
low_bytes x y z =
    slice_index x 2 ∷ slice_index x 3 ∷ slice_index x 4 ∷ slice_index x 5 ∷ slice_index x 6 ∷ slice_index x 7
    ∷ slice_index y 3 ∷ slice_index y 4 ∷ slice_index y 5 ∷ slice_index y 6 ∷ slice_index y 7
    ∷ slice_index z 3 ∷ slice_index z 4 ∷ slice_index z 5 ∷ slice_index z 6 ∷ slice_index z 7
    ∷ []

pub limbs-low_bytes : (numbers x y z : List ℕ) → length numbers ≡ 3 → AreLimbs numbers
    → x ≡ to_be_bytes w64 (slice_index numbers 0) → y ≡ to_be_bytes w64 (slice_index numbers 1) → z ≡ to_be_bytes w64 (slice_index numbers 2)
    → limbs (low_bytes x y z) ≡ numbers
limbs-low_bytes numbers x y z three range first second third =
    ap₂ (λ (a b : List ℕ). limbs (low_bytes a b z)) first second
    ∙ ap (λ (d : List ℕ). limbs (low_bytes (to_be_bytes w64 (slice_index numbers 0)) (to_be_bytes w64 (slice_index numbers 1)) d)) third
    ∙ limbs-key_bytes numbers three range

key_bytes-limbs : (key : List ℕ) → IsKey key → key_bytes (limbs key) ≡ key
key_bytes-limbs key is =
    let size : length key ≡ 16 = is.0 in
    let middle : List ℕ = take 5 (drop 6 key) in
    let end : List ℕ = take 5 (drop 11 key) in
    let first : bytes_high_first 6 (big_endian (take 6 key)) ≡ take 6 key =
    drop-big_endian 2 (take 6 key) (omega (arith, length-take 6 key)) (AreBytes-take 6 key is.1) in
    let second : bytes_high_first 5 (big_endian middle) ≡ middle =
    drop-big_endian 3 middle (omega (arith, length-take 5 (drop 6 key), length-drop 6 key)) (AreBytes-take 5 (drop 6 key) (AreBytes-drop 6 key is.1)) in
    let third : bytes_high_first 5 (big_endian end) ≡ end =
    drop-big_endian 3 end (omega (arith, length-take 5 (drop 11 key), length-drop 11 key)) (AreBytes-take 5 (drop 11 key) (AreBytes-drop 11 key is.1)) in
    let last : end ≡ drop 5 (drop 6 key) = take_all 5 (drop 11 key) (omega (arith, length-drop 11 key)) ∙ sym (drop-drop 5 6 key) in
    ap₂ (λ (a b : List ℕ). a ++ b ++ bytes_high_first 5 (big_endian end)) first second
    ∙ ap (λ (c : List ℕ). take 6 key ++ middle ++ c) (third ∙ last)
    ∙ append_assoc (take 6 key) middle (drop 5 (drop 6 key))
    ∙ ap (λ (t : List ℕ). take 6 key ++ t) (take-append-drop 5 (drop 6 key)) ∙ take-append-drop 6 key

limbs-in_range : (key : List ℕ) → IsKey key → AreLimbs (limbs key)
limbs-in_range key is =
    let size : length key ≡ 16 = is.0 in (
      big_endian-below_6 (take 6 key) (omega (arith, length-take 6 key)) (AreBytes-take 6 key is.1),
      big_endian-below_5 (take 5 (drop 6 key)) (omega (arith, length-take 5 (drop 6 key), length-drop 6 key)) (AreBytes-take 5 (drop 6 key) (AreBytes-drop 6 key is.1)),
      big_endian-below_5 (take 5 (drop 11 key)) (omega (arith, length-take 5 (drop 11 key), length-drop 11 key)) (AreBytes-take 5 (drop 11 key) (AreBytes-drop 11 key is.1)),
    )

pub limbs_come_back : (key : List ℕ) → IsKey key → AreLimbs (limbs key) × (key_bytes (limbs key) ≡ key)
limbs_come_back key is = (limbs-in_range key is, key_bytes-limbs key is)

pub same_limbs : (a b : List ℕ) → IsKey a → IsKey b → limbs a ≡ limbs b → a ≡ b
same_limbs a b is_a is_b same = sym (key_bytes-limbs a is_a) ∙ ap key_bytes same ∙ key_bytes-limbs b is_b

IsKey-key_bytes : (numbers : List ℕ) → IsKey (key_bytes numbers)
IsKey-key_bytes numbers =
    let first : List ℕ = bytes_high_first 6 (slice_index numbers 0) in
    let second : List ℕ = bytes_high_first 5 (slice_index numbers 1) in
    let third : List ℕ = bytes_high_first 5 (slice_index numbers 2) in
    (refl, AreBytes-append (first ++ second) third (AreBytes-append first second (AreBytes-bytes_high_first 6 _) (AreBytes-bytes_high_first 5 _)) (AreBytes-bytes_high_first 5 _))

pub one_key : (numbers : List ℕ) → length numbers ≡ 3 → AreLimbs numbers → HaveOneKey numbers
one_key numbers three range =
    let these : limbs (key_bytes numbers) ≡ numbers = limbs-key_bytes numbers three range in
    (key_bytes numbers, (IsKey-key_bytes numbers, these), λ other is same. same_limbs other (key_bytes numbers) is (IsKey-key_bytes numbers) (same ∙ sym these))
