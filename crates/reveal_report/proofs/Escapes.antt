-- The escapes that the code asks for are those of the text, checked byte by byte.
use Rattle.std.proofs.Common.{◌≡◌, ◌∙◌, ℕ, zero, suc, ◌<◌, ◌++◌, Bool, true, ◌&&◌, List, [], ◌∷◌, length, get_or, refl, ap, arith}
use Rattle.std.specs.Str.{bytes_eq}
use Rattle.std.specs.List.{flat_map}
use Rattle.std.proofs.lemmas.Bool.Decides.{Decides-below_and}
use Rattle.std.proofs.lemmas.Slice.Eq.{bytes_eq-Decides}
use Rattle.percent_encoding.specs.AsciiSet.{should_percent_encode}
use Rattle.percent_encoding.specs.Percent.{encode_byte, percent_encode_byte, percent_encode}
use Rattle.reveal_report.specs.declared.escape.TheConstants.{ESCAPED}
use Rattle.reveal_report.specs.Escape.{byte_text, escaped}

-- each byte below n becomes the same
abbrev same_below : ℕ → Bool
same_below zero = true
same_below (suc n) = bytes_eq (encode_byte ESCAPED n) (byte_text n) && same_below n

same_below_256 : same_below 256 ≡ true
unfolding percent_encode_byte should_percent_encode
same_below_256 = refl

encode_byte-byte_text : (b : ℕ) → b < 256 → encode_byte ESCAPED b ≡ byte_text b
encode_byte-byte_text =
    (Decides-below_and (λ b. bytes_eq (encode_byte ESCAPED b) (byte_text b)) (λ b. encode_byte ESCAPED b ≡ byte_text b) same_below (λ b. bytes_eq-Decides _ _) refl (λ _. refl) 256).0 same_below_256

flat_map-byte_text : (bytes : List ℕ) → ((i : ℕ) → i < length bytes → get_or bytes i 0 < 256) → flat_map (encode_byte ESCAPED) bytes ≡ flat_map byte_text bytes
flat_map-byte_text [] small = refl
flat_map-byte_text (b ∷ rest) small =
    let first : encode_byte ESCAPED b ≡ byte_text b = encode_byte-byte_text b (small 0 (omega arith)) in
    let others : flat_map (encode_byte ESCAPED) rest ≡ flat_map byte_text rest = flat_map-byte_text rest (λ i within. small (suc i) (omega arith)) in
    ap (λ (x : List ℕ). x ++ flat_map (encode_byte ESCAPED) rest) first ∙ ap (λ (x : List ℕ). byte_text b ++ x) others

pub percent_encode-escaped : (bytes : List ℕ) → ((i : ℕ) → i < length bytes → get_or bytes i 0 < 256) → percent_encode ESCAPED bytes ≡ escaped bytes
unfolding percent_encode escaped
percent_encode-escaped bytes small = flat_map-byte_text bytes small
