-- Bytes that are dropped up to the end, or up to a number.
use Rattle.std.proofs.Common.{◌≡◌, ℕ, ◌+◌, ◌<◌, ◌≤◌, List, [], ◌++◌, length, drop, Option, None, Some, sym, ap, ◌∙◌, arith, length-append}
use Rattle.std.proofs.lemmas.List.{drop_at}
use Rattle.std.specs.Io.KnownBytes.{Consumes, IsAtEnd}

-- the end was reached, after no more bytes than that
pub ended : (old new : Option (List ℕ)) (taken : List ℕ) (room : ℕ) → Consumes old new taken → IsAtEnd new → length taken ≤ room → (bytes : List ℕ) → old ≡ Some bytes → (length bytes ≤ room) × (new ≡ Some [])
ended None new taken room took end few bytes told = absurd cc
ended (Some from) None taken room took end few bytes told = absurd took
ended (Some from) (Some left) taken room took end few bytes told =
    let same : from ≡ bytes = let is = told in cc is in
    (omega (arith, ap length (sym same ∙ took), ap length end, length-append taken left, few), ap (λ (l : List ℕ). Some l) end)

-- one byte more was taken than that
pub went_on : (old new : Option (List ℕ)) (taken : List ℕ) (room : ℕ) → Consumes old new taken → length taken ≡ room + 1 → (bytes : List ℕ) → old ≡ Some bytes
    → (room < length bytes) × (new ≡ Some (drop (room + 1) bytes))
went_on None new taken room took long bytes told = absurd cc
went_on (Some from) None taken room took long bytes told = absurd took
went_on (Some from) (Some left) taken room took long bytes told =
    let same : bytes ≡ taken ++ left = (let is = told in let back : bytes ≡ from = cc is in back) ∙ took in
    (omega (arith, ap length same, length-append taken left, long), ap (λ (l : List ℕ). Some l) (sym (ap (drop (room + 1)) same ∙ drop_at taken left (room + 1) long)))
