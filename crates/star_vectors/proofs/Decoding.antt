-- The coefficients of what decoding gives.
use Rattle.std.proofs.Common.{◌≡◌, ◌∙◌, ℕ, List, [], ◌∷◌, true, false, Option, Some, None, IfSome, MatchOption, length, slice_index, refl, sym, ap₂, arith}
use Rattle.std.specs.Option.{unwrap_or}
use Rattle.std.proofs.lemmas.Bool.{false≢true}
use Rattle.poly61.specs.Poly.{SameCoefficients}
use Rattle.gao_decoder.specs.Decoding.{IsDecoded}
use Rattle.gao_decoder.specs.Search.{decoding_of}
use Rattle.gao_decoder.proofs.Search.{found_is_decoded}

two_items : (f : List ℕ) → length f ≡ 2 → slice_index f 0 ∷ slice_index f 1 ∷ [] ≡ f
two_items [] two = absurd (omega arith)
two_items (a ∷ []) two = absurd (omega arith)
two_items (a ∷ b ∷ []) two = refl
two_items (a ∷ b ∷ c ∷ f) two = absurd (omega arith)

-- the coefficients of a line that is decoded
pub coefficients_of_line : (line xs ys : List ℕ) → MatchOption (decoding_of xs ys 2) (true ≡ false) (λ f. (true ≡ true) × SameCoefficients line f)
    → slice_index line 0 ∷ slice_index line 1 ∷ [] ≡ unwrap_or (decoding_of xs ys 2) []
coefficients_of_line line xs ys decoded = of_found (decoding_of xs ys 2) (found_is_decoded xs ys 2) decoded
  where
    of_found : (o : Option (List ℕ)) → IfSome o (λ f. (length f ≡ 2) × IsDecoded f xs ys 2) → MatchOption o (true ≡ false) (λ f. (true ≡ true) × SameCoefficients line f)
        → slice_index line 0 ∷ slice_index line 1 ∷ [] ≡ unwrap_or o []
    of_found None is found = absurd (false≢true (sym found))
    of_found (Some f) is found = ap₂ (λ (a b : ℕ). a ∷ b ∷ []) (found.1 0) (found.1 1) ∙ two_items f is.0
