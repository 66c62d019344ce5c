-- What stands first among entries in all fields of a format.
use Rattle.std.proofs.Common.{◌≡◌, ℕ, ◌≤◌, List, [], ◌∷◌, length, Option, refl}
use Rattle.byte_format.specs.Format.{Size, Format, Entry, After, IsEnd}
use Rattle.byte_format.specs.Format.Format.{End, NumberField, BytesField}
use Rattle.byte_format.specs.Format.Entry.{Number, Bytes}

module _ {K : Type 0} (trailing : Option K) (G : Type 0) where
  -- where a number is due, one in its range stands first
  pub number_first : (size : Size) (fault : K) (low high : ℕ) (next : ℕ → Format K) (es : List Entry)
      → After (NumberField size fault low high next) es (IsEnd trailing)
      → ((n : ℕ) (others : List Entry) → es ≡ Number n ∷ others → low ≤ n → n ≤ high → After (next n) others (IsEnd trailing) → G) → G
  number_first size fault low high next [] after then = absurd after
  number_first size fault low high next (Number n ∷ es) after then = then n es refl after.0 after.1 after.2
  number_first size fault low high next (Bytes b ∷ es) after then = absurd after

  -- where bytes are due, as many stand first
  pub bytes_first : (len : ℕ) (next : Format K) (es : List Entry) → After (BytesField len next) es (IsEnd trailing)
      → ((b : List ℕ) (others : List Entry) → es ≡ Bytes b ∷ others → length b ≡ len → After next others (IsEnd trailing) → G) → G
  bytes_first len next [] after then = absurd after
  bytes_first len next (Number n ∷ es) after then = absurd after
  bytes_first len next (Bytes b ∷ es) after then = then b es refl after.0 after.1

-- where no field follows, nothing stands
pub nothing_first : {K : Type 0} (trailing other : Option K) (es : List Entry) → After (End other) es (IsEnd trailing)
    → (es ≡ []) × (other ≡ trailing)
nothing_first trailing other [] after = (refl, after)
nothing_first trailing other (e ∷ es) after = absurd after
