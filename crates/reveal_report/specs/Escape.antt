-- Bytes as printed text.
use Rattle.std.specs.Prelude.{ℕ, ◌/◌, ◌%◌, Bool, ◌==◌, List, [], ◌∷◌, ◌++◌, codes, slice_index, if◌then◌else◌}
use Rattle.std.specs.List.{flat_map, list_any}

-- the bytes that are printed as they are
abbrev pub plain_bytes : List ℕ
plain_bytes = codes "ABCDEFGHIJKLMNOPQRSTUVWXYZabcdefghijklmnopqrstuvwxyz0123456789-._=:"

abbrev pub is_plain : ℕ → Bool
is_plain b = list_any (λ plain. plain == b) plain_bytes

-- the hexadecimal digits, with upper-case letters
abbrev pub hex_digits : List ℕ
hex_digits = codes "0123456789ABCDEF"

-- a percent sign and the byte's two digits, that of the high four bits first
abbrev pub escape : ℕ → List ℕ
escape b = codes "%" ++ slice_index hex_digits (b / 16) ∷ slice_index hex_digits (b % 16) ∷ []

abbrev pub byte_text : ℕ → List ℕ
byte_text b = if is_plain b then b ∷ [] else escape b

-- the bytes as text: each as it is, or as its escape
unfoldable pub escaped : List ℕ → List ℕ
escaped bytes = flat_map byte_text bytes
