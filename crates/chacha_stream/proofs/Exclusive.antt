-- The exclusive or of two lists, part by part.
use Rattle.std.proofs.Common.{◌≡◌, ℕ, suc, ◌<◌, ◌≤◌, List, [], ◌∷◌, ◌++◌, length, get_or, bit_xor, refl, ap, ap₂, arith}
use Rattle.chacha_stream.specs.Keystream.{xor_bytes}

-- a list whose bytes are those of another, each with the byte of the stream at its place
pub xored_is : (old stream new : List ℕ) → length new ≡ length old → length old ≤ length stream
    → ((k : ℕ) → k < length old → get_or new k 0 ≡ bit_xor (get_or old k 0) (get_or stream k 0)) → new ≡ xor_bytes old stream
unfolding xor_bytes
xored_is [] stream [] len enough each = refl
xored_is [] stream (z ∷ zs) len enough each = absurd (omega arith)
xored_is (x ∷ xs) stream [] len enough each = absurd (omega arith)
xored_is (x ∷ xs) [] (z ∷ zs) len enough each = absurd (omega arith)
xored_is (x ∷ xs) (y ∷ ys) (z ∷ zs) len enough each =
    ap₂ (λ (h : ℕ) (t : List ℕ). h ∷ t) (each 0 (omega arith)) (xored_is xs ys zs (omega arith) (omega arith) (λ k within. each (suc k) (omega arith)))

-- what the stream has past the list's end counts for nothing
pub xored-longer : (xs us vs : List ℕ) → length xs ≤ length us → xor_bytes xs (us ++ vs) ≡ xor_bytes xs us
unfolding xor_bytes
xored-longer [] us vs enough = refl
xored-longer (x ∷ xs) [] vs enough = absurd (omega arith)
xored-longer (x ∷ xs) (u ∷ us) vs enough = ap (λ (t : List ℕ). bit_xor x u ∷ t) (xored-longer xs us vs (omega arith))

-- two parts, each with its own part of the stream
pub xored-append : (xs ys us vs : List ℕ) → length us ≡ length xs → xor_bytes (xs ++ ys) (us ++ vs) ≡ xor_bytes xs us ++ xor_bytes ys vs
unfolding xor_bytes
xored-append [] ys [] vs len = refl
xored-append [] ys (u ∷ us) vs len = absurd (omega arith)
xored-append (x ∷ xs) ys [] vs len = absurd (omega arith)
xored-append (x ∷ xs) ys (u ∷ us) vs len = ap (λ (t : List ℕ). bit_xor x u ∷ t) (xored-append xs ys us vs (omega arith))
