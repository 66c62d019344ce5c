-- The front of a keystream, filled up with zeros.
use Rattle.std.proofs.Common.{◌≡◌, ◌∙◌, ℕ, ◌-◌, ◌≤◌, List, ◌++◌, length, take, drop, replicate, ap, ap₂, sym}
use Rattle.std.proofs.lemmas.List.{take-replicate, drop-replicate}
use Rattle.chacha_stream.specs.Keystream.{keystream, xor_bytes}
use Rattle.chacha_stream.proofs.StreamLaws.{keystream_from_zeros, keystream_length}
use Rattle.star_vectors.specs.Vectors.{filled_up}

-- the first n of 32 zeros became a keystream
pub front_of_zeros : (key nonce : List ℕ) (counter n : ℕ) (zeros new : List ℕ) → n ≤ 32 → zeros ≡ replicate 32 0
    → new ≡ xor_bytes (take n zeros) (keystream key nonce counter 0 (length (take n zeros)))
    → new ++ drop n zeros ≡ filled_up (keystream key nonce counter 0 n)
front_of_zeros key nonce counter n zeros new few are_zeros is =
    let front : take n zeros ≡ replicate n 0 = ap (take n) are_zeros ∙ take-replicate n 32 0 few in
    let rest : drop n zeros ≡ replicate (32 - n) 0 = ap (drop n) are_zeros ∙ drop-replicate n 32 0 in
    ap₂ (λ (xs ys : List ℕ). xs ++ ys) (keystream_from_zeros key nonce counter n (take n zeros) new front is) rest
    ∙ ap (λ (m : ℕ). keystream key nonce counter 0 n ++ replicate (32 - m) 0) (sym (keystream_length key nonce counter 0 n))
